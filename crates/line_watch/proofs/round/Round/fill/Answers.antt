use Rattle.std.proofs.Common.{rules, ◌≡◌, ◌+◌, List, [], ◌∷◌, ◌++◌, length, take, sym, ap, subst, arith, length-append}
use Rattle.line_plan.specs.Sections.{sections_of}
use Rattle.line_watch.specs.declared.sight.Sight.{Sight}
use Rattle.line_watch.specs.Boards.{RoundFields}
use Rattle.line_watch.specs.Watching.{LooksInTurn}
use Rattle.line_watch.proofs.Rounds.{all_looks, next_look}
use Rattle.line_watch.proofs.round.Round.fill.Goals as goal

pub loop-number-preserved : goal.loop-number-preserved
loop-number-preserved c =
    let plan = c.args.line.now.table.shared.key in
    let now = c.loop-number.invariant in
    let sights : c.push.new.self.sights ≡ c.loop-number.self.sights ++ c.look-sight.result ∷ [] =
    ap (λ (r : RoundFields). r.sights) c.push.ensures in
    record {
      watches = c.look-sight.ensures.line;
      looked = subst (λ (xs : List Sight). LooksInTurn plan (take (c.loop-number.number + 1) (sections_of plan)) xs
          c.args.watcher.now.view.seen c.look-sight.new.self.view.seen) (sym sights)
          (next_look plan c.args.boxes c.loop-number.number c.loop-number.self.sights c.section_numbered-section.result
          c.look-sight.result _ _ _ c.requires.boxes (search rules) c.section_numbered-section.ensures.listed now.looked
          c.look-sight.ensures.looked);
      counted = (let a = now.counted in let b = c.look-sight.ensures.counted in omega arith);
      full = (let a = now.full in let l = length-append c.loop-number.self.sights (c.look-sight.result ∷ []) in
          let e : length c.push.new.self.sights ≡ length (c.loop-number.self.sights ++ c.look-sight.result ∷ []) =
          ap length sights in omega arith);
      spare = search rules;
    }

pub returns-clause-looked : goal.returns-clause-looked
returns-clause-looked c =
    all_looks c.args.line.now.table.shared.key c.args.boxes c.loop-number.number c.loop-number.self.sights _ _
    c.requires.boxes (search rules) c.loop-number.invariant.looked
