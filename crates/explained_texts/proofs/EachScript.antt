-- What is so of each script, and of one more.
use Rattle.std.proofs.Common.{◌≡◌, ℕ, zero, suc, List, [], ◌∷◌, ◌++◌, length, Some, slice_get, subst}
use Rattle.script_text.specs.declared.script.Script.{Script}

-- what is so of each script by its place, and of one more behind them, is so of all
pub each_more : (P : ℕ → Script → Type 0) (done : List Script) (script : Script)
    → ((b : ℕ) (s : Script) → slice_get done b ≡ Some s → P b s) → P (length done) script
    → (b : ℕ) (s : Script) → slice_get (done ++ script ∷ []) b ≡ Some s → P b s
each_more P [] script all last zero s e = (let here : script ≡ s = cc in subst (λ (t : Script). P 0 t) here last)
each_more P [] script all last (suc b) s e = absurd cc
each_more P (d ∷ ds) script all last zero s e = all 0 s e
each_more P (d ∷ ds) script all last (suc b) s e =
    each_more (λ n t. P (suc n) t) ds script (λ n t f. all (suc n) t f) last b s e
