use Rattle.std.proofs.Common.{Option, ap, rules, ◌∙◌, ◌≡◌}
use Rattle.line_races.specs.Keys.{own_key}
use Rattle.line_races.specs.Marks.{mark_ended, mark_left}
use Rattle.line_races.specs.Scans.{shown_at}
use Rattle.line_races.specs.declared.marks.Mark.{Mark}
use Rattle.word_laws.specs.Footprint.{way_at}
use Rattle.line_journal.specs.Halves.{pair_for}
use Rattle.line_races.proofs.Scanning.{left_by}
use Rattle.line_races.proofs.scan.Scan.leave.Goals as goal

pub returns : goal.returns
returns c =
    let plan = c.args.plan.now in
    let e = c.args.entry.now in
    let old = c.args.self.now in
    let shown = shown_at old.shown.instruments.items (pair_for plan e) (way_at plan e.box_no e.call) in
    let mark : c.own_key-mark.result ≡ own_key plan (mark_left e.reply) e =
    c.own_key-mark.ensures ∙ ap (λ (m : Option Mark). own_key plan m e) c.mark_left.ensures in
    let ended : c.mark_ended-ended.result ≡ mark_ended shown e.reply = search rules in
    let turned : c.own_key.result ≡ own_key plan (mark_ended shown e.reply) e =
    c.own_key.ensures ∙ ap (λ (m : Option Mark). own_key plan m e) ended in
    record {
      marks = left_by c.own_key-mark.result (own_key plan (mark_left e.reply) e) c.args.at old.marks.positions
          c.leave.new.self.positions mark c.in_ok-leave.ensures;
      turns = left_by c.own_key.result (own_key plan (mark_ended shown e.reply) e) c.args.at old.turns.positions
          c.leave-2.new.self.positions turned c.in_ok-leave-2.ensures;
      shown = search rules;
      width = search rules;
      known = search rules;
    }
