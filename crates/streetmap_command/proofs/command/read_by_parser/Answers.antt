use Rattle.std.proofs.Common.{map, string_bytes, Global}
use Rattle.clap.specs.Words.{app_of}
use Rattle.streetmap_command.proofs.Requested.{found_requested, parsed_faultless, read_requested, refused_requested}
use Rattle.streetmap_command.proofs.Requested.{request_found, request_refused}
use Rattle.streetmap_command.proofs.command.read_by_parser.Goals as goal

pub returns-in-Ok-try_get_matches_from-clause-found : goal.returns-in-Ok-try_get_matches_from-clause-found
returns-in-Ok-try_get_matches_from-clause-found c =
    let words = map (string_bytes {Z = Global}) c.args.words.now in
    let none = parsed_faultless (app_of c.in-Ok.parser) words c.in-Ok-try_get_matches_from.matches c.in-Ok.ensures c.in-Ok-try_get_matches_from.ensures.kinds in
    read_requested c.command_of.result words _ (found_requested (app_of c.in-Ok.parser) words c.in-Ok-try_get_matches_from.matches c.in-Ok.ensures c.in-Ok-try_get_matches_from.ensures.matches) none c.command_of.ensures.found

pub returns-in-Ok-try_get_matches_from-clause-refused : goal.returns-in-Ok-try_get_matches_from-clause-refused
returns-in-Ok-try_get_matches_from-clause-refused c =
    let words = map (string_bytes {Z = Global}) c.args.words.now in
    let none = parsed_faultless (app_of c.in-Ok.parser) words c.in-Ok-try_get_matches_from.matches c.in-Ok.ensures c.in-Ok-try_get_matches_from.ensures.kinds in
    refused_requested c.command_of.result words _ (found_requested (app_of c.in-Ok.parser) words c.in-Ok-try_get_matches_from.matches c.in-Ok.ensures c.in-Ok-try_get_matches_from.ensures.matches) none c.command_of.ensures.refused

pub returns-in-Err-try_get_matches_from-clause-found : goal.returns-in-Err-try_get_matches_from-clause-found
returns-in-Err-try_get_matches_from-clause-found c =
    let words = map (string_bytes {Z = Global}) c.args.words.now in
    request_found c.without_matches.result words c.in-Err-try_get_matches_from.error (app_of c.in-Ok.parser) c.in-Ok.ensures c.in-Err-try_get_matches_from.ensures.kinds c.without_matches.ensures.found

pub returns-in-Err-try_get_matches_from-clause-refused : goal.returns-in-Err-try_get_matches_from-clause-refused
returns-in-Err-try_get_matches_from-clause-refused c =
    let words = map (string_bytes {Z = Global}) c.args.words.now in
    request_refused c.without_matches.result words c.in-Err-try_get_matches_from.error (app_of c.in-Ok.parser) c.in-Ok.ensures c.in-Err-try_get_matches_from.ensures.kinds c.without_matches.ensures.memory c.without_matches.ensures.refused
