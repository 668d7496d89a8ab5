-- The order is legal with the parts, it is one, and the merge is never stuck.
use Rattle.std.proofs.Common.{ℕ, zero, suc, ◌+◌, ◌==◌, ◌≡◌, ◌≢◌, ◌<◌, ◌⊎◌, inl, inr, ⊎_elim, List, [], ◌∷◌}
use Rattle.std.proofs.Common.{◌++◌, Bool, true, false, cond, eqb, ltb, length, refl, sym, ap, subst, ◌∙◌, arith}
use Rattle.std.specs.Prelude.{drop}
use Rattle.std.proofs.lemmas.Bool.{eq-eqb, ltb-false, ltb-true}
use Rattle.std.proofs.lemmas.Bool.Decides.{eqb_tells}
use Rattle.std.proofs.lemmas.List.{get_or-set_same, get_or-set_other}
use Rattle.line_plan.specs.Plans.{IsPlan, PlanFields}
use Rattle.line_law.specs.declared.call.Entry.{Entry}
use Rattle.line_law.specs.declared.state.BoxState.{BoxState}
use Rattle.line_law.specs.declared.state.PairState.{PairState}
use Rattle.word_laws.specs.Footprint.{Kind, Tally, BellWord, BlockWord, PlainLineWord}
use Rattle.line_law.specs.History.{IsLegal, IsLegalFrom, after_entry, part_of, state_of}
use Rattle.line_law.specs.States.{IsStateOf, LineState, box_at, opening_state}
use Rattle.word_laws.specs.TellsWord.{kind_told}
use Rattle.line_law.proofs.Histories.{history_states, legal_both, legal_then, prefix_legal, state_grows}
use Rattle.line_journal.specs.Merging.{IsMerged, Remains, SomeReady}
use Rattle.line_journal.specs.Order.{Each, IsBoxReady, IsNext, IsOrderFrom, keeps_back, list_at, placed, without}
use Rattle.line_journal.specs.Halves.{FitFrom, Fits, MayDoAll, Stands}
use Rattle.line_journal.proofs.Exchange.{NoneKeeps, part_other, part_own, to_front, without_other, without_own}
use Rattle.line_journal.proofs.Legal.{all_stand, boxes_do, fits_in, is_legal, other_after}
use Rattle.line_journal.proofs.Legal.{pairs_after, rest_do, told_where, words_fit}
use Rattle.line_journal.proofs.LineSettled.{append_one, first_settles_line}
use Rattle.line_journal.proofs.Settled.{first_settles}

-- ---- lists

-- a box with an entry left is one of the line
pub in_range : (lists : List (List Entry)) (b : ℕ) (e : Entry) (rest : List Entry) → list_at lists b ≡ e ∷ rest
    → b < length lists
in_range [] b e rest h = absurd (cc h)
in_range (l ∷ ls) zero e rest h = omega arith
in_range (l ∷ ls) (suc b) e rest h = let less = in_range ls b e rest h in omega (arith, less)

tail_is : (x e : Entry) (xs es : List Entry) → x ∷ xs ≡ e ∷ es → xs ≡ es
tail_is x e xs es h = cc h

own_without : (b : ℕ) (R : List Entry) (e : Entry) (rest : List Entry) → part_of b R ≡ e ∷ rest
    → part_of b (without b R) ≡ rest
own_without b [] e rest h = absurd (cc h)
own_without b (x ∷ R) e rest h =
    ⊎_elim
    (λ mine. ap (λ (l : List Entry). part_of b l) (without_own x R b mine.0)
    ∙ tail_is x e _ _ (sym (part_own x R b mine.0) ∙ h))
    (λ other. ap (λ (l : List Entry). part_of b l) (without_other x R b other.0) ∙ part_other x _ b other.0
    ∙ own_without b R e rest (sym (part_other x R b other.0) ∙ h))
    (eqb_tells x.box_no b)

differs : (x b c : ℕ) → x ≡ b → c ≢ b → (x == c) ≡ false
differs x b c e ne = ⊎_elim (λ h. absurd (ne (sym h.1 ∙ e))) (λ h. h.0) (eqb_tells x c)

same_head : (is : Bool) (x : Entry) (xs ys : List Entry) → xs ≡ ys → cond is (x ∷ xs) xs ≡ cond is (x ∷ ys) ys
same_head true x xs ys e = ap (λ (l : List Entry). x ∷ l) e
same_head false x xs ys e = e

other_without : (b c : ℕ) (R : List Entry) → c ≢ b → part_of c (without b R) ≡ part_of c R
other_without b c [] ne = refl
other_without b c (x ∷ R) ne =
    ⊎_elim
    (λ mine. ap (λ (l : List Entry). part_of c l) (without_own x R b mine.0)
    ∙ sym (part_other x R c (differs x.box_no b c mine.1 ne)))
    (λ other. ap (λ (l : List Entry). part_of c l) (without_other x R b other.0)
    ∙ same_head (x.box_no == c) x _ _ (other_without b c R ne))
    (eqb_tells x.box_no b)

-- what holds of each entry holds of each of a part
pub each_part : (P : Entry → Type 0) (b : ℕ) (R : List Entry) → Each P R → Each P (part_of b R)
each_part P b [] all = tt
each_part P b (x ∷ R) all =
    ⊎_elim
    (λ mine. subst (λ (l : List Entry). Each P l) (sym (part_own x R b mine.0)) (all.0, each_part P b R all.1))
    (λ other. subst (λ (l : List Entry). Each P l) (sym (part_other x R b other.0)) (each_part P b R all.1))
    (eqb_tells x.box_no b)

fewer : (P : Entry → Type 0) (x : Entry) (R : List Entry) (c : ℕ) → Each P (part_of c (x ∷ R)) → Each P (part_of c R)
fewer P x R c all =
    ⊎_elim
    (λ mine. let both : Each P (x ∷ part_of c R) = subst (λ (l : List Entry). Each P l) (part_own x R c mine.0) all in
    both.1)
    (λ other. subst (λ (l : List Entry). Each P l) (part_other x R c other.0) all)
    (eqb_tells x.box_no c)

-- what holds of the other boxes' parts holds of their entries
each_of_part : (P : Entry → Type 0) (b : ℕ) (R : List Entry) → ((c : ℕ) → c ≢ b → Each P (part_of c R))
    → Each (λ x. x.box_no ≢ b → P x) R
each_of_part P b [] all = tt
each_of_part P b (x ∷ R) all = (
  λ ne. let both : Each P (x ∷ part_of x.box_no R) =
      subst (λ (l : List Entry). Each P l) (part_own x R x.box_no (eq-eqb _ _ refl)) (all x.box_no ne) in both.0,
  each_of_part P b R (λ c ne. fewer P x R c (all c ne)),
)

each_map : (P Q : Entry → Type 0) → ((x : Entry) → P x → Q x) → (R : List Entry) → Each P R → Each Q R
each_map P Q f [] all = tt
each_map P Q f (x ∷ R) all = (f x all.0, each_map P Q f R all.1)

each_and : (P Q T : Entry → Type 0) → ((x : Entry) → P x → Q x → T x) → (R : List Entry) → Each P R → Each Q R
    → Each T R
each_and P Q T f [] p q = tt
each_and P Q T f (x ∷ R) p q = (f x p.0 q.0, each_and P Q T f R p.1 q.1)

-- each entry of a box's part is of the box
pub each_own : (c : ℕ) (R : List Entry) → Each (λ x. x.box_no ≡ c) (part_of c R)
each_own c [] = tt
each_own c (x ∷ R) =
    let P : Entry → Type 0 = λ x. x.box_no ≡ c in
    ⊎_elim
    (λ mine. subst (λ (l : List Entry). Each P l) (sym (part_own x R c mine.0)) (mine.1, each_own c R))
    (λ other. subst (λ (l : List Entry). Each P l) (sym (part_other x R c other.0)) (each_own c R))
    (eqb_tells x.box_no c)

-- ---- one step

-- what remains is legal from the state on
pub legal_here : (plan : PlanFields) (done : List Entry) (state : LineState) (lists : List (List Entry))
    (R : List Entry) → Remains plan done state lists R → IsLegalFrom plan state R
legal_here plan done state lists R r =
    subst (λ (s : LineState). IsLegalFrom plan s R) (sym r.here) (legal_then plan (opening_state plan) done R r.legal)

pub state_here : (plan : PlanFields) (done : List Entry) (state : LineState) (lists : List (List Entry))
    (R : List Entry) → Remains plan done state lists R → IsStateOf plan state
state_here plan done state lists R r =
    subst (λ (s : LineState). IsStateOf plan s) (sym r.here) (history_states plan done)

first_of : (P : Entry → Type 0) (e : Entry) (rest l : List Entry) → l ≡ e ∷ rest → Each P l → P e
first_of P e rest l h all = let both : Each P (e ∷ rest) = subst (λ (l : List Entry). Each P l) h all in both.0

-- what the box of the next entry may do
pub own_do : (plan : PlanFields) (done : List Entry) (state : LineState) (lists : List (List Entry)) (R : List Entry)
    (b : ℕ) → IsPlan plan → Remains plan done state lists R → MayDoAll plan (box_at state b) (list_at lists b)
own_do plan done state lists R b is r =
    subst (λ (l : List Entry). MayDoAll plan (box_at state b) l) (sym (r.parts b))
    (boxes_do plan state R is (state_here plan done state lists R r) (legal_here plan done state lists R r) b)

legal_without : (plan : PlanFields) (done : List Entry) (state : LineState) (lists : List (List Entry)) (R : List Entry)
    (e : Entry) (rest : List Entry) → IsPlan plan → Remains plan done state lists R
    → IsBoxReady plan state lists e.box_no e rest
    → IsLegalFrom plan (after_entry plan state e) (without e.box_no R)
legal_without plan done state lists R e rest is r ready =
    let are = state_here plan done state lists R r in
    let legal = legal_here plan done state lists R r in
    let own : part_of e.box_no R ≡ e ∷ rest = sym (r.parts e.box_no) ∙ ready.next in
    let stand = all_stand plan state R is legal in
    let es : Stands plan e =
    first_of (Stands plan) e rest (part_of e.box_no R) own (each_part (Stands plan) e.box_no R stand) in
    let fits = fits_in plan state e ready.ready.told in
    let free : Each (λ x. x.box_no ≢ e.box_no → keeps_back plan e x ≡ false) R =
    each_of_part (λ x. keeps_back plan e x ≡ false) e.box_no R
    (λ c ne. subst (λ (l : List Entry). Each (λ x. keeps_back plan e x ≡ false) l) (r.parts c)
    (ready.ready.free c ne)) in
    let none : NoneKeeps plan e R =
    each_map (λ x. x.box_no ≢ e.box_no → keeps_back plan e x ≡ false)
    (λ x. x.box_no ≢ e.box_no → keeps_back plan e x ≡ true → ⊥)
    (λ x no_keep ne keep. let f = no_keep ne in cc (f, keep)) R free in
    let fit = to_front plan state.pairs R e rest is are.pairs (words_fit plan state R legal) own stand es fits none in
    let next : LineState = after_entry plan state e in
    let doing : (b : ℕ) → MayDoAll plan (box_at next b) (part_of b (without e.box_no R)) =
    λ b. ⊎_elim
    (λ mine.
    let P : ℕ → Type 0 = λ c. MayDoAll plan (box_at next c) (part_of c (without e.box_no R)) in
    let mine_do : MayDoAll plan (box_at state e.box_no) (e ∷ rest) =
    subst (λ (l : List Entry). MayDoAll plan (box_at state e.box_no) l) own
    (boxes_do plan state R is are legal e.box_no) in
    subst P (sym mine.1) (subst (λ (l : List Entry). MayDoAll plan (box_at next e.box_no) l)
    (sym (own_without e.box_no R e rest own)) (rest_do plan state e rest is are fits mine_do)))
    (λ other.
    subst (λ (l : List Entry). MayDoAll plan (box_at next b) l) (sym (other_without e.box_no b R other.1))
    (subst (λ (here : BoxState). MayDoAll plan here (part_of b R)) (sym (other_after plan state e b other.1))
    (boxes_do plan state R is are legal b)))
    (eqb_tells b e.box_no) in
    is_legal plan next (without e.box_no R) is (subst (λ (s : LineState). IsStateOf plan s)
    (state_grows plan done e ∙ ap (λ (s : LineState). after_entry plan s e) (sym r.here))
    (history_states plan (done ++ e ∷ []))) doing
    (subst (λ (ps : List PairState). FitFrom plan ps (without e.box_no R))
    (sym (pairs_after plan state e ready.ready.told)) fit)

may_call : (plan : PlanFields) (done : List Entry) (state : LineState) (lists : List (List Entry)) (R : List Entry)
    (e : Entry) (rest : List Entry) → IsPlan plan → Remains plan done state lists R
    → IsBoxReady plan state lists e.box_no e rest → IsLegalFrom plan state (e ∷ without e.box_no R)
may_call plan done state lists R e rest is r ready =
    let all : MayDoAll plan (box_at state e.box_no) (e ∷ rest) =
    subst (λ (l : List Entry). MayDoAll plan (box_at state e.box_no) l) ready.next
    (own_do plan done state lists R e.box_no is r) in (
      record { known = all.0.known; later = all.0.later },
      ready.ready.told,
      legal_without plan done state lists R e rest is r ready,
    )

-- whichever ready entry is placed, what remains are the parts of a legal history again
pub placing : (plan : PlanFields) (done : List Entry) (state : LineState) (lists : List (List Entry)) (R : List Entry)
    (e : Entry) (rest : List Entry) → IsPlan plan → Remains plan done state lists R
    → IsBoxReady plan state lists e.box_no e rest
    → Remains plan (done ++ e ∷ []) (after_entry plan state e) (placed lists e.box_no) (without e.box_no R)
placing plan done state lists R e rest is r ready =
    let own : part_of e.box_no R ≡ e ∷ rest = sym (r.parts e.box_no) ∙ ready.next in
    record {
      here = ap (λ (s : LineState). after_entry plan s e) r.here ∙ sym (state_grows plan done e);
      legal =
          let later : IsLegalFrom plan (state_of plan done) (e ∷ without e.box_no R) =
          subst (λ (s : LineState). IsLegalFrom plan s (e ∷ without e.box_no R)) r.here
          (may_call plan done state lists R e rest is r ready) in
          subst (λ (l : List Entry). IsLegal plan l) (sym (append_one done e (without e.box_no R)))
          (legal_both plan (opening_state plan) done (e ∷ without e.box_no R) (prefix_legal plan done R r.legal)
          later);
      parts = λ c. ⊎_elim
          (λ mine.
          let at : list_at (placed lists e.box_no) e.box_no ≡ rest =
          get_or-set_same lists e.box_no _ [] (in_range lists e.box_no e rest ready.next)
          ∙ ap (λ (l : List Entry). drop 1 l) ready.next in
          let there : part_of e.box_no (without e.box_no R) ≡ rest = own_without e.box_no R e rest own in
          let P : ℕ → Type 0 = λ k. list_at (placed lists e.box_no) k ≡ part_of k (without e.box_no R) in
          subst P (sym mine.1) (at ∙ sym there))
          (λ other. get_or-set_other lists e.box_no c _ [] other.1 ∙ r.parts c
          ∙ sym (other_without e.box_no c R other.1))
          (eqb_tells c e.box_no);
    }

-- ---- never stuck

is_line : (k : Kind) → (k ≡ PlainLineWord) ⊎ (k ≡ PlainLineWord → ⊥)
is_line Tally = inr (λ e. cc e)
is_line BellWord = inr (λ e. cc e)
is_line BlockWord = inr (λ e. cc e)
is_line PlainLineWord = inl refl

none_keeps : (plan : PlanFields) (done : List Entry) (state : LineState) (lists : List (List Entry)) (e : Entry)
    (R : List Entry) → IsPlan plan → Remains plan done state lists (e ∷ R) → NoneKeeps plan e R
none_keeps plan done state lists e R is r =
    let legal = legal_here plan done state lists (e ∷ R) r in
    let stand = all_stand plan state (e ∷ R) is legal in
    ⊎_elim
    (λ line. first_settles_line plan done e R is r.legal stand line)
    (λ other. first_settles plan state.pairs R e is (state_here plan done state lists (e ∷ R) r).pairs
    (words_fit plan state (e ∷ R) legal) stand other)
    (is_line (kind_told e.reply))

false_if : (b : Bool) → (b ≡ true → ⊥) → b ≡ false
false_if true h = absurd (h refl)
false_if false h = refl

-- the first entry of what remains of the true history may be placed
pub never_stuck : (plan : PlanFields) (done : List Entry) (state : LineState) (lists : List (List Entry)) (e : Entry)
    (R : List Entry) → IsPlan plan → Remains plan done state lists (e ∷ R)
    → IsBoxReady plan state lists e.box_no e (part_of e.box_no R)
never_stuck plan done state lists e R is r =
    let none = none_keeps plan done state lists e R is r in
    record {
      next = r.parts e.box_no ∙ part_own e R e.box_no (eq-eqb _ _ refl);
      ready = record {
        told = (legal_here plan done state lists (e ∷ R) r).1;
        free = λ c ne.
            let others : part_of c (e ∷ R) ≡ part_of c R =
            part_other e R c (⊎_elim (λ h. absurd (ne (sym h.1))) (λ h. h.0) (eqb_tells e.box_no c)) in
            subst (λ (l : List Entry). Each (λ x. keeps_back plan e x ≡ false) l) (sym (r.parts c ∙ others))
            (each_and (λ x. x.box_no ≢ e.box_no → keeps_back plan e x ≡ true → ⊥) (λ x. x.box_no ≡ c)
            (λ x. keeps_back plan e x ≡ false)
            (λ x p own. false_if (keeps_back plan e x) (p (λ h. ne (sym own ∙ h)))) (part_of c R) (each_part _ c R none)
            (each_own c R));
      };
    }

-- a box is ready, or all is placed
pub goes_on : (plan : PlanFields) (done : List Entry) (state : LineState) (lists : List (List Entry)) (R : List Entry)
    → IsPlan plan → Remains plan done state lists R → SomeReady plan state lists ⊎ ((b : ℕ) → list_at lists b ≡ [])
goes_on plan done state lists [] is r = inr r.parts
goes_on plan done state lists (e ∷ R) is r =
    inl (record { entry = e; rest = part_of e.box_no R; ready = never_stuck plan done state lists e R is r })

-- ---- the order

-- an order has the lists as its parts
pub order_has_parts : (plan : PlanFields) (state : LineState) (lists : List (List Entry)) (J : List Entry)
    → IsOrderFrom plan state lists J → (b : ℕ) → part_of b J ≡ list_at lists b
order_has_parts plan state lists [] order b = sym (order b)
order_has_parts plan state lists (e ∷ es) order b =
    let next = order.0.here.next in
    let later = order_has_parts plan (after_entry plan state e) (placed lists e.box_no) es order.1 in
    ⊎_elim
    (λ (mine : (eqb e.box_no b ≡ true) × (e.box_no ≡ b)).
    let at : list_at (placed lists e.box_no) e.box_no ≡ order.0.rest =
    get_or-set_same lists e.box_no _ [] (in_range lists e.box_no e order.0.rest next)
    ∙ ap (λ (l : List Entry). drop 1 l) next in
    let own : part_of e.box_no (e ∷ es) ≡ list_at lists e.box_no =
    part_own e es e.box_no (eq-eqb _ _ refl) ∙ ap (λ (l : List Entry). e ∷ l) (later e.box_no ∙ at) ∙ sym next in
    let P : ℕ → Type 0 = λ k. part_of k (e ∷ es) ≡ list_at lists k in
    subst P mine.1 own)
    (λ other. part_other e es b other.0 ∙ later b ∙ get_or-set_other lists e.box_no b _ [] (λ h. other.1 (sym h)))
    (eqb_tells e.box_no b)

-- the order of what remains is legal after what is done
pub order_is_legal : (plan : PlanFields) (done : List Entry) (state : LineState) (lists : List (List Entry))
    (R J : List Entry) → IsPlan plan → Remains plan done state lists R → IsOrderFrom plan state lists J
    → IsLegalFrom plan state J
order_is_legal plan done state lists R [] is r order = tt
order_is_legal plan done state lists R (e ∷ es) is r order =
    let first = may_call plan done state lists R e order.0.rest is r order.0.here in (
      first.0,
      first.1,
      order_is_legal plan (done ++ e ∷ []) (after_entry plan state e) (placed lists e.box_no)
          (without e.box_no R) es is (placing plan done state lists R e order.0.rest is r order.0.here) order.1,
    )

-- and as many entries as remain
without_fewer : (b : ℕ) (R : List Entry) (e : Entry) (rest : List Entry) → part_of b R ≡ e ∷ rest
    → length (without b R) + 1 ≡ length R
without_fewer b [] e rest h = absurd (cc h)
without_fewer b (x ∷ R) e rest h =
    ⊎_elim
    (λ mine. let gone = ap (λ (l : List Entry). length l) (without_own x R b mine.0) in omega (arith, gone))
    (λ other.
    let kept = ap (λ (l : List Entry). length l) (without_other x R b other.0) in
    let later = without_fewer b R e rest (sym (part_other x R b other.0) ∙ h) in
    omega (arith, kept, later))
    (eqb_tells x.box_no b)

none_there : (R : List Entry) → ((b : ℕ) → part_of b R ≡ []) → length R ≡ 0
none_there [] h = refl
none_there (x ∷ R) h =
    let p : x ∷ part_of x.box_no R ≡ [] = sym (part_own x R x.box_no (eq-eqb _ _ refl)) ∙ h x.box_no in absurd (cc p)

-- an order has as many entries as what it orders
pub order_as_long : (plan : PlanFields) (done : List Entry) (state : LineState) (lists : List (List Entry))
    (R J : List Entry) → IsPlan plan → Remains plan done state lists R → IsOrderFrom plan state lists J
    → length J ≡ length R
order_as_long plan done state lists R [] is r order = sym (none_there R (λ b. sym (r.parts b) ∙ order b))
order_as_long plan done state lists R (e ∷ es) is r order =
    let own : part_of e.box_no R ≡ e ∷ order.0.rest = sym (r.parts e.box_no) ∙ order.0.here.next in
    let one = without_fewer e.box_no R e order.0.rest own in
    let later =
    order_as_long plan (done ++ e ∷ []) (after_entry plan state e) (placed lists e.box_no) (without e.box_no R) es
    is (placing plan done state lists R e order.0.rest is r order.0.here) order.1 in
    omega (arith, one, later)

order_cases : (a b : ℕ) (less : Bool) → ltb a b ≡ less → (a ≡ b → ⊥) → (a < b) ⊎ (b < a)
order_cases a b true e ne = inl (ltb-true a b e)
order_cases a b false e ne = let h = ltb-false a b e in inr (omega (arith, h, ne))

head_of : (x e : Entry) (xs es : List Entry) → x ∷ xs ≡ e ∷ es → x ≡ e
head_of x e xs es h = cc h

one_next : (plan : PlanFields) (state : LineState) (lists : List (List Entry)) (e f : Entry) → IsNext plan state lists e
    → IsNext plan state lists f → e ≡ f
one_next plan state lists e f a b =
    ⊎_elim
    (λ same. head_of e f a.rest b.rest (sym a.here.next ∙ ap (λ (k : ℕ). list_at lists k) same.1 ∙ b.here.next))
    (λ other.
    ⊎_elim
    (λ less. absurd (b.lowest e.box_no less e a.rest a.here))
    (λ more. absurd (a.lowest f.box_no more f b.rest b.here))
    (order_cases e.box_no f.box_no (ltb e.box_no f.box_no) refl other.1))
    (eqb_tells e.box_no f.box_no)

none_next : (plan : PlanFields) (state : LineState) (lists : List (List Entry)) (e : Entry) → IsNext plan state lists e
    → ((b : ℕ) → list_at lists b ≡ []) → ⊥
none_next plan state lists e a empty = let h : e ∷ a.rest ≡ [] = sym a.here.next ∙ empty e.box_no in cc h

-- there is one order at most
pub one_order : (plan : PlanFields) (state : LineState) (lists : List (List Entry)) (J K : List Entry)
    → IsOrderFrom plan state lists J → IsOrderFrom plan state lists K → J ≡ K
one_order plan state lists [] [] a b = refl
one_order plan state lists [] (f ∷ fs) a b = absurd (none_next plan state lists f b.0 a)
one_order plan state lists (e ∷ es) [] a b = absurd (none_next plan state lists e a.0 b)
one_order plan state lists (e ∷ es) (f ∷ fs) a b =
    let same : e ≡ f = one_next plan state lists e f a.0 b.0 in
    let P : Entry → Type 0 = λ y. IsOrderFrom plan (after_entry plan state y) (placed lists y.box_no) fs in
    let later : es ≡ fs =
    one_order plan (after_entry plan state e) (placed lists e.box_no) es fs a.1 (subst P (sym same) b.1) in
    ap (λ (x : Entry). x ∷ es) same ∙ ap (λ (l : List Entry). f ∷ l) later

-- ---- the loop

append_nil : (xs : List Entry) → xs ++ [] ≡ xs
append_nil [] = refl
append_nil (x ∷ xs) = ap (λ (l : List Entry). x ∷ l) (append_nil xs)

-- nothing is done yet
pub begins : (plan : PlanFields) (all : List (List Entry)) (es : List Entry) → IsLegal plan es
    → ((b : ℕ) → list_at all b ≡ part_of b es) → IsMerged plan all [] (opening_state plan) all
begins plan all es legal parts =
    record { so_far = λ later order. order; left = es; remains = record { here = refl; legal = legal; parts = parts } }

-- one entry more is done
pub one_more : (plan : PlanFields) (all : List (List Entry)) (done : List Entry) (state : LineState)
    (lists : List (List Entry)) (e : Entry) → IsPlan plan → IsMerged plan all done state lists
    → IsNext plan state lists e
    → IsMerged plan all (done ++ e ∷ []) (after_entry plan state e) (placed lists e.box_no)
one_more plan all done state lists e is merged next =
    record {
      so_far =
          λ later order. subst (λ (l : List Entry). IsOrderFrom plan (opening_state plan) all l)
          (sym (append_one done e later)) (merged.so_far (e ∷ later) (next, order));
      left = without e.box_no merged.left;
      remains = placing plan done state lists merged.left e next.rest is merged.remains next.here;
    }

-- where no box is ready, what is done is the order
pub all_done : (plan : PlanFields) (all : List (List Entry)) (done : List Entry) (state : LineState)
    (lists : List (List Entry)) → IsPlan plan → IsMerged plan all done state lists
    → ((b : ℕ) (e : Entry) (rest : List Entry) → IsBoxReady plan state lists b e rest → ⊥)
    → IsOrderFrom plan (opening_state plan) all done
all_done plan all done state lists is merged none =
    ⊎_elim
    (λ (s : SomeReady plan state lists). absurd (none s.entry.box_no s.entry s.rest s.ready))
    (λ (empty : (b : ℕ) → list_at lists b ≡ []). subst (λ (l : List Entry). IsOrderFrom plan (opening_state plan) all l)
    (append_nil done) (merged.so_far [] empty))
    (goes_on plan done state lists merged.left is merged.remains)

-- a box is ready where the reply of its next entry fits, and nothing keeps that back
pub ready_where : (plan : PlanFields) (done : List Entry) (state : LineState) (lists : List (List Entry))
    (R : List Entry) (e : Entry) (rest : List Entry) → IsPlan plan → Remains plan done state lists R
    → list_at lists e.box_no ≡ e ∷ rest → Fits plan state.pairs e
    → ((c : ℕ) → c ≢ e.box_no → Each (λ x. keeps_back plan e x ≡ false) (list_at lists c))
    → IsBoxReady plan state lists e.box_no e rest
ready_where plan done state lists R e rest is r next fits free =
    let all : MayDoAll plan (box_at state e.box_no) (e ∷ rest) =
    subst (λ (l : List Entry). MayDoAll plan (box_at state e.box_no) l) next
    (own_do plan done state lists R e.box_no is r) in
    record { next = next; ready = record { told = told_where plan state e rest all fits; free = free } }
