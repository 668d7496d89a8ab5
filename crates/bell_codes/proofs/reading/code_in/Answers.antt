use Rattle.std.proofs.Common.{◌≡◌, ℕ, List, Some, None, take, length, rules, tests, sym, ap, ◌∙◌, arith}
use Rattle.std.specs.Result.{result_ok}
use Rattle.std.proofs.lemmas.Grind.{common_steps}
use Rattle.std.proofs.lemmas.Iterator.Consumers.{YieldsList-turn, YieldsList-end}
use Rattle.std.proofs.lemmas.Iterator.Splits.{YieldsList-from_slice_split}
use Rattle.bell_codes.specs.Reading.{group_of, groups_of}
use Rattle.bell_codes.proofs.Texts.{is_hyphen, bad_part, many_parts, few_parts, more_parts, none_read, read_spelled}
use Rattle.bell_codes.proofs.Texts.{zeros_behind}
use Rattle.bell_codes.proofs.reading.code_in.Goals as goal

pub returns-then-groups-eq-MOST_GROUPS : goal.returns-then-groups-eq-MOST_GROUPS
returns-then-groups-eq-MOST_GROUPS c =
    let t = YieldsList-turn
    (YieldsList-from_slice_split _ is_hyphen c.args.word.now (cc) (cc) (cc) (λ x r q k. search (rules, tests)))
    c.loop-part.yielded _ c.loop-part.yielded_by _ _ c.in-Some.part c.in-Some.is c.next.ensures.steps in
    sym (many_parts c.args.word.now (omega (arith, t.0)))

pub returns-in_err-beats : goal.returns-in_err-beats
returns-in_err-beats c =
    let t = YieldsList-turn
    (YieldsList-from_slice_split _ is_hyphen c.args.word.now (cc) (cc) (cc) (λ x r q k. search (rules, tests)))
    c.loop-part.yielded _ c.loop-part.yielded_by _ _ c.in-Some.part c.in-Some.is c.next.ensures.steps in
    let group : group_of c.in-Some.part.now ≡ None =
    sym c.read_group.ensures ∙ c.ok_or.ensures.ok_part ∙ ap result_ok c.in_err-beats.was in
    none_read c.from_residual.result c.from_residual.ensures.0
    ∙ sym (bad_part c.args.word.now (length c.loop-part.yielded) c.in-Some.part.now t group)

pub loop-part-preserved : goal.loop-part-preserved
loop-part-preserved c =
    let group : group_of c.in-Some.part.now ≡ Some c.in_ok-beats.field-0 =
    sym c.read_group.ensures ∙ c.ok_or.ensures.ok_part ∙ ap result_ok c.in_ok-beats.was in
    record {
      can = search rules;
      finite = tt;
      count = grind (arith, common_steps);
      few = omega arith;
      len = grind (arith, common_steps);
      read = more_parts c.loop-part.yielded c.in-Some.part c.loop-part.beats c.loop-part.groups c.in_ok-beats.field-0
          (omega arith) c.loop-part.invariant.read group;
      zeros = zeros_behind c.loop-part.beats c.loop-part.groups c.in_ok-beats.field-0 c.loop-part.invariant.zeros;
    }

pub of-requires-clause-valid : goal.of-requires-clause-valid
of-requires-clause-valid c =
    let t = YieldsList-end
    (YieldsList-from_slice_split _ is_hyphen c.args.word.now (cc) (cc) (cc) (λ x r q k. search (rules, tests)))
    c.loop-part.yielded _ c.loop-part.yielded_by _ _ c.in-None.is c.next.ensures.steps in
    (read_spelled c.args.word.now (take c.loop-part.groups c.loop-part.beats)
    (few_parts c.args.word.now (take c.loop-part.groups c.loop-part.beats) (omega (arith, t.1))
    (ap groups_of (sym t.0) ∙ c.loop-part.invariant.read))).0

pub returns : goal.returns
returns c =
    let t = YieldsList-end
    (YieldsList-from_slice_split _ is_hyphen c.args.word.now (cc) (cc) (cc) (λ x r q k. search (rules, tests)))
    c.loop-part.yielded _ c.loop-part.yielded_by _ _ c.in-None.is c.next.ensures.steps in
    ap (λ (code : List ℕ). Some code) c.of.ensures
    ∙ sym (few_parts c.args.word.now (take c.loop-part.groups c.loop-part.beats) (omega (arith, t.1))
    (ap groups_of (sym t.0) ∙ c.loop-part.invariant.read))
