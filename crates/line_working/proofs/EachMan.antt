-- What holds of the first man and of the others holds of each, and the other way round.
use Rattle.std.proofs.Common.{◌≡◌, ℕ, ◌<◌, List, ◌∷◌, length, slice_index_or, sym, subst, arith, zero, suc}
use Rattle.atomic_table.specs.Seated.{TableId}
use Rattle.line_plan.specs.Plans.{PlanFields}
use Rattle.script_text.specs.declared.script.Script.{Script}
use Rattle.signalman_seats.specs.Men.{Man}
use Rattle.line_working.specs.Working.{CanWork, CanWorkEach, DidWork, DidWorkEach}

module _ (table_id : TableId) (plan : PlanFields) (looks : ℕ) (s : Script) (ss : List Script) where
  can_apart : (m : Man) (ms : List Man) → CanWorkEach table_id plan (s ∷ ss) (m ∷ ms)
      → CanWork table_id plan s m × CanWorkEach table_id plan ss ms
  can_apart m ms h = (
    h.each 0 m s (omega arith),
    record { count = (let e = h.count in omega arith); each = λ i d e l. h.each (suc i) d e (omega arith) },
  )

  -- each of the men may work, so the first and each of the others may
  pub can_first : (scripts : List Script) (men : List Man) (m : Man) (ms : List Man) → scripts ≡ s ∷ ss → men ≡ m ∷ ms
      → CanWorkEach table_id plan scripts men → CanWork table_id plan s m × CanWorkEach table_id plan ss ms
  can_first scripts men m ms es em h =
      can_apart m ms (subst (λ (l : List Script). CanWorkEach table_id plan l (m ∷ ms)) es
      (subst (λ (l : List Man). CanWorkEach table_id plan scripts l) em h))

  module _ (m m' : Man) (ms ms' : List Man) where
    did_at : DidWork table_id plan s looks m m' → DidWorkEach table_id plan ss looks ms ms' → (i : ℕ) (d : Man)
        (e : Script) → i < length (m ∷ ms) → DidWork table_id plan (slice_index_or (s ∷ ss) i e) looks
        (slice_index_or (m ∷ ms) i d) (slice_index_or (m' ∷ ms') i d)
    did_at did others zero d e l = did
    did_at did others (suc i) d e l = others.each i d e (omega arith)

    -- the first and each of the others have worked, so each of the men has
    pub did_first : (scripts : List Script) (men : List Man) → scripts ≡ s ∷ ss → men ≡ m ∷ ms
        → DidWork table_id plan s looks m m' → DidWorkEach table_id plan ss looks ms ms'
        → DidWorkEach table_id plan scripts looks men (m' ∷ ms')
    did_first scripts men es em did others =
        let both : DidWorkEach table_id plan (s ∷ ss) looks (m ∷ ms) (m' ∷ ms') = record {
          count = (let e = others.count in omega arith);
          each = did_at did others;
        } in
        subst (λ (l : List Script). DidWorkEach table_id plan l looks men (m' ∷ ms')) (sym es)
        (subst (λ (l : List Man). DidWorkEach table_id plan (s ∷ ss) looks l (m' ∷ ms')) (sym em) both)
