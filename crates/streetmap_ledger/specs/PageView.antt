-- A page as a value.
use Rattle.std.specs.Prelude.{string_bytes}
use Rattle.std.specs.Option.{option_map}
use Rattle.streetmap_ledger.specs.Pages.{PageValue}
use Rattle.streetmap_ledger.specs.declared.page.Page.{Page}

-- what a page holds
abbrev pub page_value : Page → PageValue
page_value p = record {
  features = p.features.items;
  matched = p.matched;
  next = option_map
      string_bytes p.next;
  examined = p.examined;
}
