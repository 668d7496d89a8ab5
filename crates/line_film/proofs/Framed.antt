-- The line goes on by the entries of a legal journal, and what is seen of it by what they change.
use Rattle.std.proofs.Common.{◌≡◌, ℕ, ◌+◌, ◌<◌, ◌≤◌, List, [], ◌∷◌, ◌++◌, zero, suc, length, drop, take, get_or, refl, sym, ap, subst, ◌∙◌, arith}
use Rattle.std.proofs.lemmas.List.{drop_more, take-append-drop, take_more}
use Rattle.line_plan.specs.Plans.{PlanFields}
use Rattle.line_law.specs.declared.call.Entry.{Entry}
use Rattle.line_law.specs.declared.call.Reply.{Reply}
use Rattle.line_law.specs.History.{IsLegal, state_of}
use Rattle.line_law.specs.Law.{Done, MayCall, step}
use Rattle.line_law.specs.States.{LineState}
use Rattle.line_law.proofs.Histories.{entry_determined, state_grows}
use Rattle.line_law.specs.Lines.{IsLineOf, PlainState}
use Rattle.line_scene.specs.declared.shown.Shown.{Shown}
use Rattle.line_scene.specs.Scenes.{things_of}
use Rattle.line_film.specs.declared.changes.Change.{Change}
use Rattle.line_film.specs.Changes.{with_changes}
use Rattle.line_film.specs.Frames.{AreFrames, seen_after, with_frames}
use Rattle.line_film.proofs.Changed.{put_over}
use Rattle.line_film.proofs.Counted.{as_many}

split : (es : List Entry) (at : ℕ) (d : Entry) → at < length es
    → es ≡ take at es ++ get_or es at d ∷ drop (at + 1) es
split es at d within =
    sym (take-append-drop at es) ∙ ap (λ (rest : List Entry). take at es ++ rest) (drop_more es at d within)

-- the call of an entry may be made where those before it end
pub call_at : (plan : PlanFields) (es : List Entry) (at : ℕ) (d : Entry) (state : LineState) → IsLegal plan es
    → at < length es → state ≡ state_of plan (take at es)
    → MayCall plan state (get_or es at d).box_no (get_or es at d).call
call_at plan es at d state legal within is =
    subst (λ (s : LineState). MayCall plan s (get_or es at d).box_no (get_or es at d).call) (sym is)
    (entry_determined plan (take at es) (drop (at + 1) es) (get_or es at d)
    (subst (λ (xs : List Entry). IsLegal plan xs) (split es at d within) legal)).0

-- and leads to where those end that go as far as itself
pub state_next : (plan : PlanFields) (es : List Entry) (at : ℕ) (d : Entry) (old new : LineState) (reply : Reply)
    → at < length es → old ≡ state_of plan (take at es)
    → step plan old (get_or es at d).box_no (get_or es at d).call ≡ record { reply = reply; after = new }
    → new ≡ state_of plan (take (at + 1) es)
state_next plan es at d old new reply within is told =
    sym (ap (λ (done : Done). done.after) told)
    ∙ ap (λ (s : LineState). (step plan s (get_or es at d).box_no (get_or es at d).call).after) is
    ∙ sym (state_grows plan (take at es) (get_or es at d))
    ∙ ap (λ (xs : List Entry). state_of plan xs) (sym (take_more es at d within))

-- as many things are seen after an entry as before it
pub same_count : (plan : PlanFields) (es : List Entry) (at : ℕ) (one other : PlainState) (before after : List Shown)
    → IsLineOf plan one → IsLineOf plan other → one.line ≡ state_of plan (take at es)
    → other.line ≡ state_of plan (take (at + 1) es) → before ≡ seen_after plan es at
    → after ≡ seen_after plan es (at + 1) → length before ≡ length after
same_count plan es at one other before after is was from to b a =
    ap (λ (things : List Shown). length things) b
    ∙ ap (λ (s : LineState). length (things_of plan s)) (sym from)
    ∙ as_many plan one other is was
    ∙ ap (λ (s : LineState). length (things_of plan s)) to
    ∙ sym (ap (λ (things : List Shown). length things) a)

-- ---- how things stand

one_more : (things : List Shown) (frames : List (List Change)) (frame : List Change)
    → with_frames things (frames ++ frame ∷ []) ≡ with_changes (with_frames things frames) frame
one_more things [] frame = refl
one_more things (first ∷ frames) frame = one_more (with_changes things first) frames frame

pub framed : (plan : PlanFields) (es : List Entry) (frames : List (List Change)) (n : ℕ) → AreFrames plan es frames
    → n ≤ length es → with_frames (seen_after plan es 0) (take n frames) ≡ seen_after plan es n
framed plan es frames zero are within = refl
framed plan es frames (suc n) are within =
    let there : n < length frames = omega (arith, within, are.count) in
    let next : suc n ≡ n + 1 = omega arith in
    let before = framed plan es frames n are (omega (arith, within)) in
    ap (λ (k : ℕ). with_frames (seen_after plan es 0) (take k frames)) next
    ∙ ap (λ (fs : List (List Change)). with_frames (seen_after plan es 0) fs) (take_more frames n [] there)
    ∙ one_more (seen_after plan es 0) (take n frames) (get_or frames n [])
    ∙ ap (λ (things : List Shown). with_changes things (get_or frames n [])) before
    ∙ put_over [] 0 (seen_after plan es n) (seen_after plan es (n + 1)) (get_or frames n []) refl
    (are.each n (omega (arith, within)))
    ∙ ap (λ (k : ℕ). seen_after plan es k) (sym next)
