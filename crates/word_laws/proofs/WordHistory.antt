-- An entry of a legal history leaves every shared word but its own, and the operation at which its call was decided
-- makes of that word's number the next.
use Rattle.std.proofs.Common.{◌≡◌, ◌≢◌, ℕ, ◌+◌, ◌-◌, ◌<◌, ◌≤◌, ◌^◌, inl, inr, List, [], ◌∷◌, ◌++◌, Some, Bool, true}
use Rattle.std.proofs.Common.{false, ◌&&◌, length, refl, sym, ap, subst, ◌∙◌, arith}
use Rattle.std.specs.Prelude.{◌==◌}
use Rattle.std.proofs.lemmas.Bool.Decides.{eqb_tells}
use Rattle.std.proofs.lemmas.List.{get_or-set_same}
use Rattle.block_words.specs.Operations.{word_after}
use Rattle.block_words.specs.declared.Way.{Way}
use Rattle.block_words.specs.declared.Way.TheVariants.{Up, Down}
use Rattle.block_words.specs.declared.WordOp.{WordOp}
use Rattle.line_plan.specs.Plans.{IsPlan, PlanFields}
use Rattle.line_law.specs.declared.call.Call.{Call}
use Rattle.line_law.specs.declared.call.Entry.{Entry}
use Rattle.line_law.specs.declared.state.Bell.{Bell}
use Rattle.line_law.specs.declared.state.Block.{Block}
use Rattle.line_law.specs.declared.state.PairState.{PairState}
use Rattle.line_law.specs.declared.ways.ByWay.{ByWay}
use Rattle.line_law.specs.Decisions.{Decision, on_pair}
use Rattle.word_laws.specs.Footprint.{Kind, Tally, BellWord, BlockWord, PlainLineWord, KeepsOthers, SameOthers, kind_at}
use Rattle.word_laws.specs.Footprint.{kind_of, way_at}
use Rattle.line_law.specs.History.{IsLegal, state_of}
use Rattle.line_law.specs.Known.{KnowsCall}
use Rattle.line_law.specs.Law.{at_moment, decide, link_of, pair_of, box_plan_of, step}
use Rattle.line_law.specs.Links.{way_of}
use Rattle.word_laws.specs.Operations.{FirstDecides, FirstOn, IsOnWord, MovesWord, SecondDecides, SecondOn, first_by}
use Rattle.word_laws.specs.Operations.{first_on, second_by, second_on}
use Rattle.line_law.specs.States.{LineState, box_at, opening_pair, pair_at}
use Rattle.word_laws.specs.TellsWord.{kind_told}
use Rattle.line_law.specs.Ways.{of_way}
use Rattle.word_laws.specs.WordNumbers.{BellOf, BlockOf, PlainLineOf, NumberAgrees, TallyOf, Word, bell_number}
use Rattle.word_laws.specs.WordNumbers.{block_number, is_tally, plain_line_number, number_after, number_at, one_if}
use Rattle.word_laws.specs.WordNumbers.{tally_added, tally_of, word_named, word_of}
use Rattle.word_laws.proofs.Agreements.{met_agrees, trains_of}
use Rattle.word_laws.proofs.Footprints.{keeps_others}
use Rattle.line_law.proofs.Histories.{entry_determined, history_states, prefix_legal, state_grows}
use Rattle.word_laws.proofs.OperationLaws.{Follows, follows}
use Rattle.line_law.proofs.Outcomes.{outcome_of}
use Rattle.line_law.proofs.Sides.{call_within}
use Rattle.word_laws.proofs.TellsKind.{kind_is_told}

-- ---- tallies

pub tally_grows : (b : ℕ) (es : List Entry) (e : Entry) → tally_of b (es ++ e ∷ []) ≡ tally_of b es + tally_added b e
tally_grows b [] e = omega arith
tally_grows b (f ∷ es) e = let r = tally_grows b es e in omega (arith, r)

one_or_none : (t : Bool) → one_if t ≤ 1
one_or_none true = omega arith
one_or_none false = omega arith

few_counted : (b : ℕ) (es : List Entry) → tally_of b es ≤ length es
few_counted b [] = omega arith
few_counted b (e ∷ es) = let r = few_counted b es in let o =
    one_or_none ((e.box_no == b) && is_tally (kind_told e.reply)) in omega (arith, r, o)

none_by : (t s : Bool) → (t && s) ≡ false → one_if (t && s) ≡ 0
none_by t s e = rw e refl

no_and : (t : Bool) → (t && false) ≡ false
no_and true = refl
no_and false = refl

none_added : (k : Kind) (b c p : ℕ) (v : Way) → TallyOf c ≢ word_named k b p v → one_if ((b == c) && is_tally k) ≡ 0
none_added Tally b c p v ne = elim (eqb_tells b c) [
  | inl same ↦ absurd (ne (ap (λ (n : ℕ). TallyOf n) (sym same.1)))
  | inr differ ↦ none_by (b == c) true (ap (λ (t : Bool). t && true) differ.0)
]
none_added BellWord b c p v ne = none_by (b == c) false (no_and (b == c))
none_added BlockWord b c p v ne = none_by (b == c) false (no_and (b == c))
none_added PlainLineWord b c p v ne = none_by (b == c) false (no_and (b == c))

one_added : (b : ℕ) (k : Kind) → k ≡ Tally → one_if ((b == b) && is_tally k) ≡ 1
one_added b k is = elim (eqb_tells b b) [
  | inl same ↦ rw (same.0, is) refl
  | inr differ ↦ absurd (differ.1 refl)
]

-- ---- the other words

-- a word of the same pair that isn't the one of a decision has the number that it had
same_number : (k l : Kind) (v w : Way) (b c p : ℕ) (before after : PairState) → word_named l c p w ≢ word_named k b p v
    → SameOthers k v before after → number_at l w after ≡ number_at l w before
same_number k Tally v w b c p before after ne same = refl
same_number Tally BellWord v w b c p before after ne same = ap (λ (q : PairState). number_at BellWord w q) (sym same)
same_number Tally BlockWord v w b c p before after ne same = ap (λ (q : PairState). number_at BlockWord w q) (sym same)
same_number Tally PlainLineWord v w b c p before after ne same =
    ap (λ (q : PairState). number_at PlainLineWord w q) (sym same)
same_number BellWord BellWord Up Up b c p before after ne same = absurd (ne refl)
same_number BellWord BellWord Up Down b c p before after ne same = ap bell_number (sym same.0)
same_number BellWord BellWord Down Up b c p before after ne same = ap bell_number (sym same.0)
same_number BellWord BellWord Down Down b c p before after ne same = absurd (ne refl)
same_number BellWord BlockWord v w b c p before after ne same =
    ap (λ (x : ByWay Block). block_number (of_way x w)) (sym same.1)
same_number BellWord PlainLineWord v w b c p before after ne same =
    ap plain_line_number (sym (ap (λ x. of_way x w) same.2))
same_number BlockWord BellWord v w b c p before after ne same =
    ap (λ (x : ByWay Bell). bell_number (of_way x w)) (sym same.0)
same_number BlockWord BlockWord Up Up b c p before after ne same = absurd (ne refl)
same_number BlockWord BlockWord Up Down b c p before after ne same = ap block_number (sym same.1)
same_number BlockWord BlockWord Down Up b c p before after ne same = ap block_number (sym same.1)
same_number BlockWord BlockWord Down Down b c p before after ne same = absurd (ne refl)
same_number BlockWord PlainLineWord v w b c p before after ne same =
    ap plain_line_number (sym (ap (λ x. of_way x w) same.2))
same_number PlainLineWord BellWord v w b c p before after ne same =
    ap (λ (x : ByWay Bell). bell_number (of_way x w)) (sym same.0)
same_number PlainLineWord BlockWord v w b c p before after ne same =
    ap (λ (x : ByWay Block). block_number (of_way x w)) (sym same.1)
same_number PlainLineWord PlainLineWord Up Up b c p before after ne same = absurd (ne refl)
same_number PlainLineWord PlainLineWord Up Down b c p before after ne same = ap plain_line_number (sym same.2)
same_number PlainLineWord PlainLineWord Down Up b c p before after ne same = ap plain_line_number (sym same.2)
same_number PlainLineWord PlainLineWord Down Down b c p before after ne same = absurd (ne refl)

-- ---- an entry that follows a legal history

module _ (plan : PlanFields) (es : List Entry) (e : Entry) (is : IsPlan plan) (legal : IsLegal plan (es ++ e ∷ []))
  where
    before : IsLegal plan es
    before = prefix_legal plan es (e ∷ []) legal

    known : KnowsCall plan e.box_no e.call
    known = (entry_determined plan es [] e legal).0.known

    -- the reply tells the kind of the decision
    told : kind_told e.reply ≡ kind_at plan (state_of plan es) e.box_no e.call
    told = let one =
        (entry_determined plan es [] e legal).1 in
        ap (λ (f : Entry). kind_told f.reply) one ∙ kind_is_told plan (state_of plan es) e.box_no e.call

    others_keep : KeepsOthers plan e.box_no e.call (state_of plan es)
    others_keep = keeps_others plan (state_of plan es) e.box_no e.call is (history_states plan es) known

    -- a word of the line's pairs
    pair_word : (l : Kind) (p : ℕ) (w : Way)
        → word_named l 0 p w ≢ word_named (kind_told e.reply) e.box_no (pair_of plan e.box_no e.call)
        (way_of (link_of (box_plan_of plan e.box_no) e.call.act))
        → number_at l w (pair_at (state_of plan (es ++ e ∷ [])) p) ≡ number_at l w (pair_at (state_of plan es) p)
    pair_word l p w ne =
        ap (λ (s : LineState). number_at l w (pair_at s p)) (state_grows plan es e)
        ∙ elim (eqb_tells p (pair_of plan e.box_no e.call)) [
          | inl same ↦
              let ne2 : word_named l 0 (pair_of plan e.box_no e.call) w ≢ word_named
              (kind_at plan (state_of plan es) e.box_no e.call) e.box_no (pair_of plan e.box_no e.call)
              (way_at plan e.box_no e.call) =
              (λ eq. ne
              (ap (λ (q : ℕ). word_named l 0 q w) same.1 ∙ eq
              ∙ ap (λ (k : Kind). word_named k e.box_no (pair_of plan e.box_no e.call) (way_at plan e.box_no e.call))
              (sym told)))
              in
              subst (λ (q : ℕ). number_at l w (pair_at (step plan (state_of plan es) e.box_no e.call).after q)
              ≡ number_at l w (pair_at (state_of plan es) q)) (sym same.1)
              (same_number (kind_at plan (state_of plan es) e.box_no e.call) l (way_at plan e.box_no e.call) w e.box_no
              0
              (pair_of plan e.box_no e.call) _ _ ne2 others_keep.words)
          | inr differ ↦ ap (number_at l w) (others_keep.pairs p differ.1)
        ]

    others : (w : Word) → w ≢ word_of plan e → number_after plan (es ++ e ∷ []) w ≡ number_after plan es w
    others (TallyOf c) ne =
        let none =
        none_added (kind_told e.reply) e.box_no c (pair_of plan e.box_no e.call)
        (way_of (link_of (box_plan_of plan e.box_no) e.call.act)) ne in
        let grows = tally_grows c es e in
        omega (arith, none, grows)
    others (BellOf p way) ne = pair_word BellWord p way ne
    others (BlockOf p way) ne = pair_word BlockWord p way ne
    others (PlainLineOf p way) ne = pair_word PlainLineWord p way ne

-- ---- its own word

-- the decision of an entry's call, the number of its word by kind, and the pair after it
abbrev decision : PlanFields → List Entry → Entry → Decision
decision plan es e =
    decide plan (box_plan_of plan e.box_no) e.call.act (at_moment (box_at (state_of plan es) e.box_no) e.call.moment)

abbrev way : PlanFields → Entry → Way
way plan e = way_of (link_of (box_plan_of plan e.box_no) e.call.act)

abbrev pair_before : PlanFields → List Entry → Entry → PairState
pair_before plan es e = pair_at (state_of plan es) (pair_of plan e.box_no e.call)

pair_is : (plan : PlanFields) (state : LineState) (b : ℕ) (call : Call) → IsPlan plan → KnowsCall plan b call
    → length state.pairs ≡ length plan.boxes - 1
    → pair_at (step plan state b call).after (pair_of plan b call)
    ≡ (on_pair (way_of (link_of (box_plan_of plan b) call.act))
    (decide plan (box_plan_of plan b) call.act (at_moment (box_at state b) call.moment))
    (pair_at state (pair_of plan b call))).word
unfolding step
pair_is plan state b call is known shape =
    let within = call_within plan b call is known in
    get_or-set_same state.pairs (pair_of plan b call) _ opening_pair (omega (arith, shape, within.pair))

-- the word of a kind, as the pair has it
named_number : (plan : PlanFields) (es : List Entry) (k : Kind) (b p : ℕ) (v : Way) → IsOnWord k
    → number_after plan es (word_named k b p v) ≡ number_at k v (pair_at (state_of plan es) p)
named_number plan es Tally b p v on = absurd on
named_number plan es BellWord b p v on = refl
named_number plan es BlockWord b p v on = refl
named_number plan es PlainLineWord b p v on = refl

-- what the first operation makes of the word of this kind
abbrev FirstMakes : PlanFields → List Entry → Entry → Kind → Kind → Type 0
FirstMakes plan es e k l =
    FirstOn k
    (FirstDecides (box_plan_of plan e.box_no) e.call.act
    (at_moment (box_at (state_of plan es) e.box_no) e.call.moment)
    (number_after plan es (word_named l e.box_no (pair_of plan e.box_no e.call) (way plan e))))
    → word_after
    (first_on k
    (first_by (box_plan_of plan e.box_no) e.call.act
    (at_moment (box_at (state_of plan es) e.box_no) e.call.moment)))
    (number_after plan es (word_named l e.box_no (pair_of plan e.box_no e.call) (way plan e)))
    ≡ number_after plan (es ++ e ∷ []) (word_named l e.box_no (pair_of plan e.box_no e.call) (way plan e))

-- what a second operation makes of it
abbrev SecondMakes : PlanFields → List Entry → Entry → Kind → Kind → Type 0
SecondMakes plan es e k l =
    (op : WordOp)
    → second_on k
    (second_by (box_plan_of plan e.box_no) e.call.act
    (at_moment (box_at (state_of plan es) e.box_no) e.call.moment)) ≡ Some op
    → SecondOn k
    (SecondDecides (box_plan_of plan e.box_no) e.call.act
    (at_moment (box_at (state_of plan es) e.box_no) e.call.moment)
    (number_after plan es (word_named l e.box_no (pair_of plan e.box_no e.call) (way plan e))))
    → word_after op (number_after plan es (word_named l e.box_no (pair_of plan e.box_no e.call) (way plan e)))
    ≡ number_after plan (es ++ e ∷ []) (word_named l e.box_no (pair_of plan e.box_no e.call) (way plan e))

record Makes (plan : PlanFields) (es : List Entry) (e : Entry) (k l : Kind) : Type 0 where
  pub first : FirstMakes plan es e k l
  pub second : SecondMakes plan es e k l

-- the pair after an entry
pair_then : (plan : PlanFields) (es : List Entry) (e : Entry) → IsPlan plan → IsLegal plan (es ++ e ∷ [])
    → pair_at (state_of plan (es ++ e ∷ [])) (pair_of plan e.box_no e.call)
    ≡ (on_pair (way plan e) (decision plan es e) (pair_before plan es e)).word
pair_then plan es e is legal =
    ap (λ (s : LineState). pair_at s (pair_of plan e.box_no e.call)) (state_grows plan es e)
    ∙ pair_is plan (state_of plan es) e.box_no e.call is (known plan es e is legal) (history_states plan es).pairs

entry_follows : (plan : PlanFields) (es : List Entry) (e : Entry) → IsPlan plan → IsLegal plan (es ++ e ∷ [])
    → length es < 2 ^ 32 → IsOnWord (kind_of (decision plan es e))
    → Follows (box_plan_of plan e.box_no) e.call.act (at_moment (box_at (state_of plan es) e.box_no) e.call.moment)
    (decision plan es e) (pair_before plan es e)
entry_follows plan es e is legal few on =
    let here = at_moment (box_at (state_of plan es) e.box_no) e.call.moment in
    let lives = known plan es e is legal in
    let past = before plan es e is legal in
    follows plan (box_plan_of plan e.box_no) e.call.act here (decision plan es e) (pair_before plan es e)
    (outcome_of plan (box_plan_of plan e.box_no) e.call.act here) on
    (trains_of plan es e.box_no is past (call_within plan e.box_no e.call is lives).box)
    (met_agrees plan es e.box_no e.call is past few lives)

-- what the operations make of the pair's word of a kind
abbrev FirstAt : PlanFields → List Entry → Entry → Kind → Type 0
FirstAt plan es e l =
    FirstDecides (box_plan_of plan e.box_no) e.call.act (at_moment (box_at (state_of plan es) e.box_no) e.call.moment)
    (number_at l (way plan e) (pair_before plan es e))
    → word_after
    (first_on l
    (first_by (box_plan_of plan e.box_no) e.call.act
    (at_moment (box_at (state_of plan es) e.box_no) e.call.moment)))
    (number_at l (way plan e) (pair_before plan es e))
    ≡ number_at l (way plan e) (on_pair (way plan e) (decision plan es e) (pair_before plan es e)).word

abbrev SecondAt : PlanFields → List Entry → Entry → Kind → Type 0
SecondAt plan es e l =
    (op : WordOp)
    → second_on l
    (second_by (box_plan_of plan e.box_no) e.call.act
    (at_moment (box_at (state_of plan es) e.box_no) e.call.moment)) ≡ Some op
    → SecondDecides (box_plan_of plan e.box_no) e.call.act
    (at_moment (box_at (state_of plan es) e.box_no) e.call.moment)
    (number_at l (way plan e) (pair_before plan es e))
    → word_after op (number_at l (way plan e) (pair_before plan es e))
    ≡ number_at l (way plan e) (on_pair (way plan e) (decision plan es e) (pair_before plan es e)).word

-- on a word of the pair
made : (plan : PlanFields) (es : List Entry) (e : Entry) (k : Kind) → IsPlan plan → IsLegal plan (es ++ e ∷ [])
    → IsOnWord k → FirstAt plan es e k → SecondAt plan es e k → Makes plan es e k k
made plan es e Tally is legal on f g = absurd on
made plan es e BellWord is legal on f g =
    record {
      first = λ h. f h ∙ sym (ap (number_at BellWord (way plan e)) (pair_then plan es e is legal));
      second =
          λ op may h. g op may h ∙ sym (ap (number_at BellWord (way plan e)) (pair_then plan es e is legal));
    }
made plan es e BlockWord is legal on f g =
    record {
      first = λ h. f h ∙ sym (ap (number_at BlockWord (way plan e)) (pair_then plan es e is legal));
      second =
          λ op may h. g op may h ∙ sym (ap (number_at BlockWord (way plan e)) (pair_then plan es e is legal));
    }
made plan es e PlainLineWord is legal on f g =
    record {
      first = λ h. f h ∙ sym (ap (number_at PlainLineWord (way plan e)) (pair_then plan es e is legal));
      second =
          λ op may h. g op may h ∙ sym (ap (number_at PlainLineWord (way plan e)) (pair_then plan es e is legal));
    }

on_word : (plan : PlanFields) (es : List Entry) (e : Entry) (k : Kind) → IsPlan plan → IsLegal plan (es ++ e ∷ [])
    → length es < 2 ^ 32 → kind_of (decision plan es e) ≡ k → IsOnWord k → Makes plan es e k k
on_word plan es e k is legal few same on =
    let f = entry_follows plan es e is legal few (subst IsOnWord (sym same) on) in
    made plan es e k is legal on (subst (FirstAt plan es e) same f.first) (subst (SecondAt plan es e) same f.second)

-- on the tally of the box
on_tally : (plan : PlanFields) (es : List Entry) (e : Entry) → length es < 2 ^ 32 → kind_told e.reply ≡ Tally
    → Makes plan es e Tally Tally
on_tally plan es e few is =
    let grows = tally_grows e.box_no es e in
    let one = one_added e.box_no (kind_told e.reply) is in
    let small = few_counted e.box_no es in
    record {
      first = λ h.
          (let sum : tally_of e.box_no (es ++ e ∷ []) ≡ tally_of e.box_no es + 1 =
          omega (arith, grows, one) in omega (arith, sum, small, few));
      second = λ op may h. absurd h;
    }

by_kind : (plan : PlanFields) (es : List Entry) (e : Entry) (k : Kind) → IsPlan plan → IsLegal plan (es ++ e ∷ [])
    → length es < 2 ^ 32 → kind_of (decision plan es e) ≡ k → Makes plan es e k k
by_kind plan es e Tally is legal few same = on_tally plan es e few (told plan es e is legal ∙ same)
by_kind plan es e BellWord is legal few same = on_word plan es e BellWord is legal few same tt
by_kind plan es e BlockWord is legal few same = on_word plan es e BlockWord is legal few same tt
by_kind plan es e PlainLineWord is legal few same = on_word plan es e PlainLineWord is legal few same tt

-- an entry of a legal history moves its own word alone
pub moves_word : (plan : PlanFields) (es : List Entry) (e : Entry) → IsPlan plan → IsLegal plan (es ++ e ∷ [])
    → length es < 2 ^ 32 → MovesWord plan es e
moves_word plan es e is legal few =
    let m = subst (λ (l : Kind). Makes plan es e (kind_of (decision plan es e)) l) (sym (told plan es e is legal))
    (by_kind plan es e (kind_of (decision plan es e)) is legal few refl) in
    record { others = others plan es e is legal; first = m.first; second = m.second }

-- an entry tells by its reply the kind of its word
pub kind_of_entry : (plan : PlanFields) (es more : List Entry) (e : Entry) → IsLegal plan (es ++ e ∷ more)
    → kind_told e.reply ≡ kind_at plan (state_of plan es) e.box_no e.call
kind_of_entry plan es more e legal = let one =
    (entry_determined plan es more e legal).1 in
    ap (λ (f : Entry). kind_told f.reply) one ∙ kind_is_told plan (state_of plan es) e.box_no e.call

-- the number of the word that a known call meets agrees with its box
pub met_number : (plan : PlanFields) (es : List Entry) (b : ℕ) (call : Call) → IsPlan plan → IsLegal plan es
    → length es < 2 ^ 32 → KnowsCall plan b call → IsOnWord (kind_at plan (state_of plan es) b call)
    → NumberAgrees (kind_at plan (state_of plan es) b call) (link_of (box_plan_of plan b) call.act)
    (at_moment (box_at (state_of plan es) b) call.moment)
    (number_after plan es
    (word_named (kind_at plan (state_of plan es) b call) b (pair_of plan b call) (way_at plan b call)))
met_number plan es b call is legal few known on = record {
  pair = pair_at (state_of plan es) (pair_of plan b call);
  agrees = met_agrees plan es b call is legal few known;
  packs = sym
      (named_number plan es (kind_at plan (state_of plan es) b call) b (pair_of plan b call) (way_at plan b call) on);
}
