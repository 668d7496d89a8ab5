use Rattle.std.proofs.Common.{ℕ, ◌≡◌, ◌∷◌, List, Bool, true, false, IsTrue, drop, length, refl, ap, subst, sym}
use Rattle.std.proofs.Common.{◌∙◌, arith}
use Rattle.std.specs.Prelude.{slice_get, slice_set}
use Rattle.line_law.specs.declared.call.Entry.{Entry}
use Rattle.line_law.specs.declared.state.PairState.{PairState}
use Rattle.line_law.specs.Ways.{of_way}
use Rattle.word_laws.specs.Footprint.{way_at}
use Rattle.line_journal.specs.declared.merging.MergeState.{MergeState}
use Rattle.line_journal.specs.FitTests.{HasSpace}
use Rattle.line_journal.specs.Halves.{found_at, made, pair_for}
use Rattle.line_journal.specs.Keepers.{pair_woken}
use Rattle.line_journal.specs.Order.{list_at, placed}
use Rattle.line_journal.proofs.Answering.{first_next, none_shut}
use Rattle.line_journal.proofs.Looping.{own_box}
use Rattle.line_journal.proofs.Steps.{holds_behind, holds_past}
use Rattle.line_journal.proofs.merging.MergeState.place.Goals as goal

pub returns-in_default-clause-holds : goal.returns-in_default-clause-holds
returns-in_default-clause-holds c =
    holds_past c.requires.holds c.requires.box_no
    (none_shut c.args.plan.now c.args.self.now.pairs.items c.args.self.now.left c.args.box_no
    (c.in_default.ensures.value ∙ ap (λ (list : List Entry). slice_get list 0) c.of_box.ensures))
    c.requires.holds.are_keepers refl refl c.pass_over.ensures.awake c.pass_over.ensures.from

pub word_of-pair-requires : goal.word_of-pair-requires
word_of-pair-requires c =
    let next : list_at c.args.self.now.left c.args.box_no
    ≡ c.in-Some.entry.now ∷ drop 1 (list_at c.args.self.now.left c.args.box_no) =
    first_next (list_at c.args.self.now.left c.args.box_no) c.in-Some.entry.now
    (c.in-Some.ensures.value ∙ ap (λ (list : List Entry). slice_get list 0) c.of_box.ensures) in
    (own_box c.args.plan.now c.args.self.now.left c.args.box_no c.in-Some.entry.now _ c.requires.line.boxes next).box

pub is_open-requires-clause-next : goal.is_open-requires-clause-next
is_open-requires-clause-next c =
    first_next (list_at c.args.self.now.left c.args.box_no) c.in-Some.entry.now
    (c.in-Some.ensures.value ∙ ap (λ (list : List Entry). slice_get list 0) c.of_box.ensures)

clash : (b : Bool) → b ≡ false → IsTrue b → ⊥
clash b down up = cc

pub returns-then-not-is_open-clause-holds : goal.returns-then-not-is_open-clause-holds
returns-then-not-is_open-clause-holds c =
    let same = c.is_open.ensures.same in
    holds_past c.requires.holds c.requires.box_no
    (λ was. clash c.is_open.result c.if-not-is_open.true (c.is_open.ensures.opens.1 was))
    c.is_open.ensures.keepers (ap (λ (merge : MergeState). merge.pairs.items) same)
    (ap (λ (merge : MergeState). merge.left) same)
    (c.pass_over-then-not-is_open.ensures.awake
    ∙ ap (λ (merge : MergeState). slice_set merge.awake.items c.args.box_no false) same)
    c.pass_over-then-not-is_open.ensures.from

pub returns-then-not-is_open-clause-placed : goal.returns-then-not-is_open-clause-placed
returns-then-not-is_open-clause-placed c =
    let same = c.is_open.ensures.same in (
      ap (λ (merge : MergeState). merge.pairs.items) same,
      ap (λ (merge : MergeState). merge.left) same,
      c.pass_over-then-not-is_open.ensures.from,
    )

pub make-requires-clause-within : goal.make-requires-clause-within
make-requires-clause-within c =
    let next : list_at c.args.self.now.left c.args.box_no
    ≡ c.in-Some.entry.now ∷ drop 1 (list_at c.args.self.now.left c.args.box_no) =
    first_next (list_at c.args.self.now.left c.args.box_no) c.in-Some.entry.now
    (c.in-Some.ensures.value ∙ ap (λ (list : List Entry). slice_get list 0) c.of_box.ensures) in
    let own =
    own_box c.args.plan.now c.args.self.now.left c.args.box_no c.in-Some.entry.now _ c.requires.line.boxes next in
    let same : length c.is_open.new.self.pairs.items ≡ length c.args.self.now.pairs.items =
    ap (λ (merge : MergeState). length merge.pairs.items) c.is_open.ensures.same in
    omega (arith, own.pair, c.requires.line.words, c.word_of-pair.ensures.pair, same)

pub make-requires-clause-space : goal.make-requires-clause-space
make-requires-clause-space c =
    let next : list_at c.args.self.now.left c.args.box_no
    ≡ c.in-Some.entry.now ∷ drop 1 (list_at c.args.self.now.left c.args.box_no) =
    first_next (list_at c.args.self.now.left c.args.box_no) c.in-Some.entry.now
    (c.in-Some.ensures.value ∙ ap (λ (list : List Entry). slice_get list 0) c.of_box.ensures) in
    subst (λ (pairs : List PairState). HasSpace c.in-Some.entry.now.reply
    (of_way (found_at pairs (pair_for c.args.plan.now c.in-Some.entry.now)).lines
    (way_at c.args.plan.now c.in-Some.entry.now.box_no c.in-Some.entry.now.call)))
    (ap (λ (merge : MergeState). merge.pairs.items) (sym c.is_open.ensures.same))
    (c.requires.space (c.is_open.ensures.opens.0 c.if-not-is_open.false) c.in-Some.entry.now _ next)

pub wake-requires : goal.wake-requires
wake-requires c =
    let next : list_at c.args.self.now.left c.args.box_no
    ≡ c.in-Some.entry.now ∷ drop 1 (list_at c.args.self.now.left c.args.box_no) =
    first_next (list_at c.args.self.now.left c.args.box_no) c.in-Some.entry.now
    (c.in-Some.ensures.value ∙ ap (λ (list : List Entry). slice_get list 0) c.of_box.ensures) in
    let own =
    own_box c.args.plan.now c.args.self.now.left c.args.box_no c.in-Some.entry.now _ c.requires.line.boxes next in
    let same : length c.is_open.new.self.awake.items ≡ length c.args.self.now.awake.items =
    ap (λ (merge : MergeState). length merge.awake.items) c.is_open.ensures.same in
    omega (arith, own.pair, c.requires.line.count, c.requires.holds.each, c.word_of-pair.ensures.pair, same)

pub returns-clause-holds : goal.returns-clause-holds
returns-clause-holds c =
    let next : list_at c.args.self.now.left c.args.box_no
    ≡ c.in-Some.entry.now ∷ drop 1 (list_at c.args.self.now.left c.args.box_no) =
    first_next (list_at c.args.self.now.left c.args.box_no) c.in-Some.entry.now
    (c.in-Some.ensures.value ∙ ap (λ (list : List Entry). slice_get list 0) c.of_box.ensures) in
    let same = c.is_open.ensures.same in
    holds_behind c.requires.line c.requires.holds c.requires.box_no next
    (c.requires.word c.in-Some.entry.now _ next) (c.is_open.ensures.opens.0 c.if-not-is_open.false)
    c.is_open.ensures.keepers
    (c.make.ensures ∙ ap (λ (merge : MergeState). made c.args.plan.now merge.pairs.items c.in-Some.entry.now) same)
    (c.place_next.ensures ∙ ap (λ (merge : MergeState). placed merge.left c.args.box_no) same)
    (c.wake.ensures ∙ ap (λ (merge : MergeState). pair_woken c.word_of-pair.result.0 merge.awake.items) same
    ∙ ap (λ (pair : ℕ). pair_woken pair c.args.self.now.awake.items) c.word_of-pair.ensures.pair)
    c.word_of-pair.ensures.pair

pub returns-clause-placed : goal.returns-clause-placed
returns-clause-placed c =
    let next : list_at c.args.self.now.left c.args.box_no
    ≡ c.in-Some.entry.now ∷ drop 1 (list_at c.args.self.now.left c.args.box_no) =
    first_next (list_at c.args.self.now.left c.args.box_no) c.in-Some.entry.now
    (c.in-Some.ensures.value ∙ ap (λ (list : List Entry). slice_get list 0) c.of_box.ensures) in
    let same = c.is_open.ensures.same in (
      c.in-Some.entry.now,
      record {
        opens = c.is_open.ensures.opens.0 c.if-not-is_open.false;
        next = next;
        words = c.make.ensures
            ∙ ap (λ (merge : MergeState). made c.args.plan.now merge.pairs.items c.in-Some.entry.now) same;
        rest = c.place_next.ensures ∙ ap (λ (merge : MergeState). placed merge.left c.args.box_no) same;
      },
    )
