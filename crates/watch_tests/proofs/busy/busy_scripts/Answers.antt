use Rattle.std.proofs.Common.{◌≡◌, ℕ, zero, suc, List, [], ◌∷◌, ◌++◌, Some, slice_get, length, length-append}
use Rattle.std.proofs.Common.{sym, ap, ◌∙◌, subst, arith}
use Rattle.script_text.specs.Scripts.{IsScriptOf}
use Rattle.script_text.specs.declared.script.Script.{Script}
use Rattle.watch_tests.proofs.busy.busy_scripts.Goals as goal

-- one script more, behind the others
own_behind : (P : ℕ → Script → Type 0) (done : List Script) (last : Script)
    → ((b : ℕ) (script : Script) → slice_get done b ≡ Some script → P b script) → P (length done) last
    → (b : ℕ) (script : Script) → slice_get (done ++ last ∷ []) b ≡ Some script → P b script
own_behind P [] last own is zero script e = let same : last ≡ script = cc in subst (P 0) same is
own_behind P [] last own is (suc b) script e = absurd cc
own_behind P (first ∷ done) last own is zero script e = own zero script e
own_behind P (first ∷ done) last own is (suc b) script e =
    own_behind (λ n s. P (suc n) s) done last (λ c s f. own (suc c) s f) is b script e

pub loop-box_no-preserved : goal.loop-box_no-preserved
loop-box_no-preserved c =
    let plan = c.args.plan.now in
    let now = c.loop-box_no.invariant in
    let done : List Script = c.loop-box_no.scripts.items in
    let script : Script = c.in_ok-script.script in
    let more : c.push.new.self.items ≡ done ++ script ∷ [] = c.in_ok-push.ensures.items in
    let last : IsScriptOf plan (length done) script = subst (λ (b : ℕ). IsScriptOf plan b script) (sym now.each)
    c.in_ok-script.ensures in
    record {
      each = ap length more ∙ (let l = length-append done (script ∷ []) in let e = now.each in omega arith);
      own = subst (λ (items : List Script).
          (b : ℕ) (s : Script) → slice_get items b ≡ Some s → IsScriptOf plan b s)
          (sym more) (own_behind (IsScriptOf plan) done script now.own last);
    }
