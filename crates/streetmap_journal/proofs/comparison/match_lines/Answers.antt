use Rattle.std.proofs.Common.{◌≡◌, ℕ, Ok, Err, subst, arith}
use Rattle.streetmap_replay.proofs.CallsInTurn.{no_reads, reads_then}
use Rattle.streetmap_journal.specs.Comparison.{MatchesLine, Matches, serial_following}
use Rattle.streetmap_journal.specs.declared.comparison.MatchEnd.TheVariants.{NotRead}
use Rattle.streetmap_journal.proofs.LinesSoFar.{begins, further, ended, unread}
use Rattle.streetmap_journal.proofs.comparison.match_lines.Goals as goal

pub loop-turn-init : goal.loop-turn-init
loop-turn-init g c = record {
  reads = no_reads c.args.keeper.now;
  alike = λ h s e. begins s _ _;
}

pub loop-turn-preserved : goal.loop-turn-preserved
loop-turn-preserved g c =
    let inv = c.loop-turn.invariant in
    let says = c.in-Ok.ensures in
    let now = g.R.Read.remaining c.loop-turn.reader in
    let later = g.R.Read.remaining c.match_line.new.reader in
    let turn = c.loop-turn.turn in
    let bytes = c.loop-turn.bytes in
    let serial : c.saturating_add-serial.result ≡ serial_following c.args.after turn =
    omega (arith, c.saturating_add-serial.ensures, c.saturating_add.ensures) in
    record {
      reads = reads_then inv.reads says.reads;
      alike = λ h s e.
          let was = says.reads.calls.began_clean h in
          let it = inv.alike was s e in
          let sound = g.K.Keeper.model.well_formed c.args.keeper.now s e in
          let line = subst (λ (n : ℕ). MatchesLine s n bytes now later (Ok c.in-Ok.more)) serial (says.matches h s (inv.reads.stays was s e)) in
          further s sound c.args.after _ now later turn bytes it line.0 c.in-Ok.more line.1 line.2 line.3;
    }

pub returns-in-Err-clause-reads : goal.returns-in-Err-clause-reads
returns-in-Err-clause-reads g c = reads_then c.loop-turn.invariant.reads c.in-Err.ensures.reads

pub returns-in-Err-clause-matches : goal.returns-in-Err-clause-matches
returns-in-Err-clause-matches g c = λ h s e.
    let inv = c.loop-turn.invariant in
    let says = c.in-Err.ensures in
    let now = g.R.Read.remaining c.loop-turn.reader in
    let later = g.R.Read.remaining c.match_line.new.reader in
    let turn = c.loop-turn.turn in
    let bytes = c.loop-turn.bytes in
    let serial : c.saturating_add-serial.result ≡ serial_following c.args.after turn =
    omega (arith, c.saturating_add-serial.ensures, c.saturating_add.ensures) in
    let was = says.reads.calls.began_clean h in
    let it = inv.alike was s e in
    let sound = g.K.Keeper.model.well_formed c.args.keeper.now s e in
    let line = subst (λ (n : ℕ). MatchesLine s n bytes now later (Err c.in-Err.end)) serial (says.matches h s (inv.reads.stays was s e)) in
    ended s sound c.args.after _ now later turn bytes it c.in-Err.end line

pub returns-clause-matches : goal.returns-clause-matches
returns-clause-matches g c = λ h s e.
    let it = c.loop-turn.invariant.alike h s e in
    let sound = g.K.Keeper.model.well_formed c.args.keeper.now s e in
    let now = g.R.Read.remaining c.loop-turn.reader in
    let turn = c.loop-turn.turn in
    let serial = serial_following c.args.after turn in
    let last : turn ≡ 18446744073709551615 =
    omega (arith, c.loop-turn-test.false, c.loop-turn.auto.turn-end) in
    subst (λ (n : ℕ). Matches s c.args.after (g.R.Read.remaining c.args.reader.now)
    (record { count = n; bytes = c.loop-turn.bytes; end = NotRead })) last
    (ended s sound c.args.after _ now now turn c.loop-turn.bytes it NotRead
    (unread s serial now))
