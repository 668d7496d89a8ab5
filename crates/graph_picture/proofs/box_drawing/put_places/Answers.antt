use Rattle.std.proofs.Common.{◌≡◌, ◌∙◌, ◌+◌, ◌++◌, ◌∷◌, List, ℕ, drop, ap, sym, arith}
use Rattle.std.proofs.lemmas.List.{append_assoc, drop_more}
use Rattle.std.proofs.lemmas.Option.{get_or_from_slice_get, slice_get_within}
use Rattle.graph_picture.specs.Boxes.{place_text, places_text}
use Rattle.graph_picture.proofs.box_drawing.put_places.Goals as goal

pub loop-place-preserved : goal.loop-place-preserved
loop-place-preserved c =
    let places = c.args.places.now in
    let i = c.loop-place.place in
    let y = c.loop-place.y in
    let right = c.args.right in
    let name = c.name_of.result.now in
    let before = c.loop-place.page.text in
    let its = c.loop-place.invariant in
    let within = slice_get_within places i name c.name_of.ensures.name in
    let at = get_or_from_slice_get places i name name c.name_of.ensures.name in
    let rest = places_text right (y + 14) (drop (i + 1) places) in
    let more : drop i places ≡ name ∷ drop (i + 1) places =
    drop_more places i name within ∙ ap (λ (n : List ℕ). n ∷ drop (i + 1) places) at in
    record {
      text =
          ap (λ (text : List ℕ). text ++ rest) c.in_ok-put_place.ensures.text
          ∙ append_assoc before (place_text right y name) rest
          ∙ ap (λ (names : List (List ℕ)). before ++ places_text right y names) (sym more)
          ∙ its.text;
      tags = c.in_ok-put_place.ensures.tags ∙ its.tags;
      level = omega (arith, its.level);
    }
