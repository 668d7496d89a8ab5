-- What is told of each entry by those before it, one after another.
use Rattle.std.proofs.Common.{◌≡◌, List, [], ◌∷◌, ◌++◌, inl, inr, refl, sym, ap, subst, ◌∙◌}
use Rattle.std.specs.Prelude.{Contains}
use Rattle.std.proofs.lemmas.List.{append_assoc, append-nil}
use Rattle.std.proofs.lemmas.List.Elements.{Contains-append_cases, Contains-append_left, Contains-append_right}
use Rattle.line_law.specs.declared.call.Entry.{Entry}
use Rattle.reg_audit.proofs.InOrder.{contains_none}
use Rattle.box_marking.specs.Behind.{each_behind}

-- one entry more
pub each_more : {A : Type 0} (told : List Entry → Entry → List A) (before es : List Entry) (e : Entry)
    → each_behind told before (es ++ e ∷ []) ≡ each_behind told before es ++ told (before ++ es) e
each_more {A = A} told before [] e =
    append-nil (told before e) ∙ ap (λ (b : List Entry). told b e) (sym (append-nil before))
each_more {A = A} told before (x ∷ es) e =
    let after : List Entry = before ++ x ∷ [] in
    ap (λ (r : List A). told before x ++ r) (each_more told after es e)
    ∙ ap (λ (b : List Entry). told before x ++ (each_behind told after es ++ told b e))
    (append_assoc before (x ∷ []) es)
    ∙ sym (append_assoc (told before x) (each_behind told after es) (told (before ++ x ∷ es) e))

-- this is told of some entry, by those before it
pub record IsTold (A : Type 0) (told : List Entry → Entry → List A) (before es : List Entry) (x : A) : Type 0 where
  pub mid : List Entry
  pub entry : Entry
  pub after : List Entry
  pub split : es ≡ mid ++ entry ∷ after
  pub is : Contains (told (before ++ mid) entry) x

-- what is told of all is told of some entry
pub each_told : {A : Type 0} (told : List Entry → Entry → List A) (before es : List Entry) (x : A)
    → Contains (each_behind told before es) x → IsTold A told before es x
each_told told before [] x h = absurd (contains_none x h)
each_told {A = A} told before (e ∷ es) x h =
    let after : List Entry = before ++ e ∷ [] in
    elim (Contains-append_cases (told before e) (each_behind told after es) x h) [
      | inl here ↦ record {
        mid = [];
        entry = e;
        after = es;
        split = refl;
        is = subst (λ (b : List Entry). Contains (told b e) x) (sym (append-nil before)) here;
      }
      | inr later ↦
          let t : IsTold A told after es x = each_told told after es x later in
          record {
            mid = e ∷ t.mid;
            entry = t.entry;
            after = t.after;
            split = ap (λ (xs : List Entry). e ∷ xs) t.split;
            is = subst (λ (b : List Entry). Contains (told b t.entry) x) (append_assoc before (e ∷ []) t.mid) t.is;
          }
    ]

-- what is told of some entry is told of all
pub told_each : {A : Type 0} (told : List Entry → Entry → List A) (before mid : List Entry) (e : Entry)
    (after : List Entry) (x : A) → Contains (told (before ++ mid) e) x
    → Contains (each_behind told before (mid ++ e ∷ after)) x
told_each told before [] e after x h =
    Contains-append_left (told before e) (each_behind told (before ++ e ∷ []) after) x
    (subst (λ (b : List Entry). Contains (told b e) x) (append-nil before) h)
told_each told before (m ∷ mid) e after x h =
    Contains-append_right (told before m) (each_behind told (before ++ m ∷ []) (mid ++ e ∷ after)) x
    (told_each told (before ++ m ∷ []) mid e after x
    (subst (λ (b : List Entry). Contains (told b e) x) (sym (append_assoc before (m ∷ []) mid)) h))
