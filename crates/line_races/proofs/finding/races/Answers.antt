use Rattle.std.proofs.Common.{length, sym, subst, ap, ◌∙◌, ◌≡◌, arith, List}
use Rattle.line_races.specs.Nearest.{races_before}
use Rattle.line_races.specs.Races.{AreRaces}
use Rattle.line_races.specs.declared.finding.Race.{Race}
use Rattle.line_races.proofs.Listing.{are_races, races_more}
use Rattle.line_races.proofs.finding.races.Goals as goal

pub loop-second-preserved : goal.loop-second-preserved
loop-second-preserved c = record {
  scanned = c.in_ok-first.ensures.scanned;
  listed = c.in_ok-add.ensures
      ∙ races_more c.args.plan.now c.args.entries.now c.loop-second.second c.loop-second.races.items c.in_ok-first.first
      c.loop-second.invariant.listed c.in_ok-first.ensures.nearest;
}

pub returns : goal.returns
returns c =
    let end : c.loop-second.second ≡ length c.args.entries.now = omega arith in
    subst (λ (rs : List Race). AreRaces c.args.plan.now c.args.entries.now rs)
    (sym (c.loop-second.invariant.listed ∙ ap (races_before c.args.plan.now c.args.entries.now) end))
    (are_races c.args.plan.now c.args.entries.now)
