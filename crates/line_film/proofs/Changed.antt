-- What is listed of things, one behind the other; and how things stand after what is listed.
use Rattle.std.proofs.Common.{◌≡◌, ℕ, ◌+◌, ◌<◌, ◌≤◌, List, [], ◌∷◌, ◌++◌, length, drop, get_or, set, refl, sym, ap, subst, ◌∙◌, arith}
use Rattle.std.proofs.lemmas.List.{append_assoc, drop_all, drop_more, length-append}
use Rattle.std.proofs.Math.Seq.{set-append_seam}
use Rattle.line_scene.specs.declared.shown.Shown.{Shown}
use Rattle.line_film.specs.declared.changes.Change.{Change}
use Rattle.line_film.specs.Changes.{AreChanges, IsChange, with_changes}

-- what is listed of a thing, and of those behind it, is listed of the things from its number on
pub change_here : (before after : List Shown) (slot : ℕ) (d e : Shown) (first rest : List Change)
    → slot < length before → slot < length after
    → IsChange slot (get_or before slot d) (get_or after slot e) first
    → AreChanges (slot + 1) (drop (slot + 1) before) (drop (slot + 1) after) rest
    → AreChanges slot (drop slot before) (drop slot after) (first ++ rest)
change_here before after slot d e first rest within there is more =
    subst (λ (olds : List Shown). AreChanges slot olds (drop slot after) (first ++ rest))
    (sym (drop_more before slot d within))
    (subst (λ (news : List Shown).
    AreChanges slot (get_or before slot d ∷ drop (slot + 1) before) news (first ++ rest))
    (sym (drop_more after slot e there)) (first, rest, refl, is, more))

-- and nothing behind their end
pub none_left : (before after : List Shown) (slot : ℕ) → length before ≤ slot → length after ≤ slot
    → AreChanges slot (drop slot before) (drop slot after) []
none_left before after slot all others =
    subst (λ (olds : List Shown). AreChanges slot olds (drop slot after) []) (sym (drop_all slot before all))
    (subst (λ (news : List Shown). AreChanges slot [] news []) (sym (drop_all slot after others)) refl)

-- ---- how things stand

-- what is listed of a thing is put in its place
put_thing : (front : List Shown) (slot : ℕ) (old thing : Shown) (before after : List Shown)
    (first rest changes : List Change) → length front ≡ slot → changes ≡ first ++ rest → IsChange slot old thing first
    → with_changes (front ++ thing ∷ before) rest ≡ front ++ thing ∷ after
    → with_changes (front ++ old ∷ before) changes ≡ front ++ thing ∷ after
put_thing front slot old thing before after [] rest changes at all is more =
    ap (λ (cs : List Change). with_changes (front ++ old ∷ before) cs) all
    ∙ ap (λ (shown : Shown). with_changes (front ++ shown ∷ before) rest) is ∙ more
put_thing front slot old thing before after (change ∷ []) rest changes at all is more =
    ap (λ (cs : List Change). with_changes (front ++ old ∷ before) cs)
    (all ∙ ap (λ (c : Change). c ∷ rest) is.1)
    ∙ ap (λ (n : ℕ). with_changes (set (front ++ old ∷ before) n thing) rest) (sym at)
    ∙ ap (λ (things : List Shown). with_changes things rest) (set-append_seam front old before thing)
    ∙ more
put_thing front slot old thing before after (change ∷ other ∷ others) rest changes at all is more = absurd is

-- one thing more stands before the others
pub behind : (front : List Shown) (thing : Shown) (things : List Shown)
    → (front ++ thing ∷ []) ++ things ≡ front ++ thing ∷ things
behind front thing things = append_assoc front (thing ∷ []) things

more_front : (front : List Shown) (slot : ℕ) (thing : Shown) → length front ≡ slot
    → length (front ++ thing ∷ []) ≡ slot + 1
more_front front slot thing at = let all = length-append front (thing ∷ []) in omega (arith, all, at)

-- what is listed of things, put in their places, leaves them as they stand then
pub put_over : (front : List Shown) (slot : ℕ) (before after : List Shown) (changes : List Change)
    → length front ≡ slot → AreChanges slot before after changes
    → with_changes (front ++ before) changes ≡ front ++ after
put_over front slot [] [] changes at are = ap (λ (cs : List Change). with_changes (front ++ []) cs) are
put_over front slot [] (thing ∷ after) changes at are = absurd are
put_over front slot (old ∷ before) [] changes at are = absurd are
put_over front slot (old ∷ before) (thing ∷ after) changes at (first, rest, all, is, more) =
    let further = put_over (front ++ thing ∷ []) (slot + 1) before after rest (more_front front slot thing at) more in
    put_thing front slot old thing before after first rest changes at all is
    (subst (λ (olds : List Shown). with_changes olds rest ≡ front ++ thing ∷ after) (behind front thing before)
    (further ∙ behind front thing after))
