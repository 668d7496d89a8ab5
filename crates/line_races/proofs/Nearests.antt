-- The nearest race that is found for an entry is its nearest race.
use Rattle.std.proofs.Common.{ℕ, ◌≡◌, ◌⊎◌, inl, inr, ⊎_elim, List, Option, Some, None}
use Rattle.std.specs.Prelude.{slice_get}
use Rattle.line_plan.specs.Plans.{PlanFields}
use Rattle.line_law.specs.declared.call.Entry.{Entry}
use Rattle.line_races.specs.Keys.{other_key}
use Rattle.line_races.specs.Nearest.{if_unknown, is_above, known_before, known_then, last_found, later_of, maker_at}
use Rattle.line_races.specs.Nearest.{marks_of, nearest_at}
use Rattle.line_races.specs.Races.{AreRelated, FindsMark, IsKnownAt, IsRace, IsWaitedFor, MakesPossible, Meet}
use Rattle.line_races.specs.Races.{MightHaveSeen, ended_by, keeper_of, maker_of, mark_of, missed_by, position_before}
use Rattle.line_races.proofs.Founds.{nearest_found}
use Rattle.line_races.proofs.KeyLaws.{ended_kind, keeper_kind, left_kind, missed_kind}
use Rattle.line_races.proofs.Knowing.{nearest_maker}
use Rattle.line_races.proofs.Lasts.{IsNearestOf, nearest_of_two, nearest_unknown}
use Rattle.line_races.proofs.Waiting.{IsOpposite, are_opposite, known_reached, reached_known, reached_waited}
use Rattle.line_races.proofs.Waiting.{waited_reached}
use Rattle.line_journal.specs.Halves.{pair_for}
use Rattle.word_laws.specs.Footprint.{way_at}

-- what is so at the same positions has the same nearest one
pub nearest_alike : (P Q : ℕ → Type 0) (o : Option ℕ) → ((k : ℕ) → P k → Q k) → ((k : ℕ) → Q k → P k)
    → IsNearestOf P o → IsNearestOf Q o
nearest_alike P Q None to from near = λ k h. near k (from k h)
nearest_alike P Q (Some i) to from near = (to i near.0, λ k behind h. near.1 k behind (from k h))

module _ (plan : PlanFields) (es : List Entry) (j : ℕ) (x : Entry) (there : slice_get es j ≡ Some x) where
  -- what makes entry j possible or keeps it meets it, and the other way round
  abbrev Keeps : ℕ → Type 0
  Keeps k = AreRelated es (FindsMark plan mark_of keeper_of) k j

  meets_by : (k : ℕ) → MakesPossible plan es k j ⊎ Keeps k → Meet plan es k j
  meets_by k (inl makes) = record {
    earlier = makes.earlier;
    first = makes.first;
    second = makes.second;
    first_at = makes.first_at;
    second_at = makes.second_at;
    related = inl makes.related;
  }
  meets_by k (inr keeps) = record {
    earlier = keeps.earlier;
    first = keeps.first;
    second = keeps.second;
    first_at = keeps.first_at;
    second_at = keeps.second_at;
    related = inr keeps.related;
  }

  with_mark : (k : ℕ) (meets : Meet plan es k j)
      → FindsMark plan mark_of maker_of meets.first meets.second
      ⊎ FindsMark plan mark_of keeper_of meets.first meets.second
      → MakesPossible plan es k j ⊎ Keeps k
  with_mark k meets (inl made) = inl (record {
    earlier = meets.earlier;
    first = meets.first;
    second = meets.second;
    first_at = meets.first_at;
    second_at = meets.second_at;
    related = made;
  })
  with_mark k meets (inr kept) = inr (record {
    earlier = meets.earlier;
    first = meets.first;
    second = meets.second;
    first_at = meets.first_at;
    second_at = meets.second_at;
    related = kept;
  })

  -- an entry that meets entry j is opposite
  meets_opposite : (k : ℕ) → Meet plan es k j → IsOpposite plan es k j x
  meets_opposite k meets =
      ⊎_elim (λ makes. are_opposite plan es mark_of maker_of k j x there makes)
      (λ keeps. are_opposite plan es mark_of keeper_of k j x there keeps) (with_mark k meets meets.related)

  nearest_meeting : IsNearestOf (λ k. Meet plan es k j)
      (later_of (maker_at plan es j x) (last_found plan es marks_of j (other_key plan (keeper_of x) x)))
  nearest_meeting =
      nearest_alike (λ k. MakesPossible plan es k j ⊎ Keeps k) (λ k. Meet plan es k j) _ meets_by
      (λ k meets. with_mark k meets meets.related)
      (nearest_of_two (λ k. MakesPossible plan es k j) Keeps
      (maker_at plan es j x) (last_found plan es marks_of j (other_key plan (keeper_of x) x))
      (nearest_maker plan es j x there)
      (nearest_found plan es marks_of keeper_of (λ i e. left_kind e.reply) (λ y. keeper_kind y.reply) j x there))

  nearest_met : IsNearestOf (λ k. Meet plan es k j × (IsWaitedFor plan es k j → ⊥))
      (if_unknown (known_then x (known_before plan es x.box_no (is_above plan x) j) (maker_at plan es j x))
      (later_of (maker_at plan es j x) (last_found plan es marks_of j (other_key plan (keeper_of x) x))))
  nearest_met =
      nearest_unknown (λ k. Meet plan es k j) (λ k. IsWaitedFor plan es k j)
      (known_then x (known_before plan es x.box_no (is_above plan x) j) (maker_at plan es j x)) _ nearest_meeting
      (λ k meets. waited_reached plan es k j x (meets_opposite k meets))
      (λ k meets. reached_waited plan es k j x (meets_opposite k meets))

  -- entry k has turned the instrument from the position that entry j saw
  abbrev Turns : ℕ → Type 0
  Turns k = AreRelated es (FindsMark plan (ended_by plan es k) missed_by) k j

  turns_opposite : (k : ℕ) → Turns k → IsOpposite plan es k j x
  turns_opposite k turned = are_opposite plan es (ended_by plan es k) missed_by k j x there turned

  nearest_turn : IsNearestOf Turns (last_found plan es (ended_by plan es) j (other_key plan (missed_by x) x))
  nearest_turn =
      nearest_found plan es (ended_by plan es) missed_by
      (λ i e. ended_kind (position_before plan es (pair_for plan e) (way_at plan e.box_no e.call) i) e.reply)
      (λ y. missed_kind y.call.act y.reply) j x there

  nearest_missed : IsNearestOf (λ k. MightHaveSeen plan es k j)
      (if_unknown (known_before plan es x.box_no (is_above plan x) j)
      (last_found plan es (ended_by plan es) j (other_key plan (missed_by x) x)))
  nearest_missed =
      nearest_alike (λ k. Turns k × (IsKnownAt plan es k j → ⊥)) (λ k. MightHaveSeen plan es k j) _
      (λ k h. record { turned = h.0; unknown = h.1 }) (λ k h. (h.turned, h.unknown))
      (nearest_unknown Turns (λ k. IsKnownAt plan es k j) (known_before plan es x.box_no (is_above plan x) j)
      (last_found plan es (ended_by plan es) j (other_key plan (missed_by x) x)) nearest_turn
      (λ k turned. known_reached plan es k j x (turns_opposite k turned))
      (λ k turned. reached_known plan es k j x (turns_opposite k turned)))

  -- the nearest race that is found is the nearest one
  pub nearest_race : IsNearestOf (λ k. IsRace plan es k j) (nearest_at plan es j x)
  nearest_race =
      nearest_of_two (λ k. Meet plan es k j × (IsWaitedFor plan es k j → ⊥)) (λ k. MightHaveSeen plan es k j) _ _
      nearest_met nearest_missed
