-- What a meeting of two men comes to.
use Rattle.std.proofs.Common.{◌≡◌, ℕ, ◌≤◌, ◌<◌, leb, true, false, ⊎_elim, length, Option}
use Rattle.std.proofs.Common.{Some, sym, ap, ◌∙◌, subst, arith, length-append}
use Rattle.std.specs.Prelude.{IfSome}
use mathlib.Core.List.{IsPrefix}
use Rattle.std.proofs.lemmas.Bool.Decides.{leb_tells}
use Rattle.token_law.specs.History.{token_part_of}
use Rattle.token_block.specs.declared.instrument.Instrument.{Instrument}
use Rattle.token_block.specs.declared.view.Tokens.{Tokens}
use Rattle.token_block.specs.declared.view.TokenView.{TokenView}
use Rattle.token_block.specs.Men.{HasTokens, IsMan}
use Rattle.token_block.specs.Rule.{IsHistoryOf, Seen}
use Rattle.token_block.specs.Steps.{LegalFor}
use Rattle.token_block.specs.Views.{both_views, longer, settled}
use Rattle.token_block.proofs.Changes.{own_tokens}
use Rattle.token_block.proofs.Parts.{Es, if_yes}

legal_there : (tokens : Tokens) (o : Option Tokens) (seen : Es) → o ≡ Some tokens → LegalFor o seen
    → IsHistoryOf tokens seen
legal_there tokens o seen e h = subst (λ (p : Option Tokens). LegalFor p seen) e h

-- a man's seat has taken in one without a post: his box is as he had seen it
pub takes_in : (tokens : Tokens) (v w other : TokenView) (b : ℕ) (own : Instrument) → v.opened ≡ Some tokens
    → IsMan v b own → w ≡ settled (both_views v other) → Seen w.seen v.post v.seen → LegalFor w.opened w.seen
    → IsMan w b own
takes_in tokens v w other b own has man view seen legal = record {
  box = man.box;
  post = ap (λ (x : TokenView). x.post) view ∙ man.post;
  olds = ap (λ (x : TokenView). x.olds) view;
  came = ap (λ (x : TokenView). x.came) view ∙ man.came;
  hand = man.hand ∙ sym (ap (λ (x : TokenView). x.hand) view);
  calls = man.calls ∙ ap length (sym same_part);
  tokens = subst (λ (o : Option Tokens). IfSome o (HasTokens b w.seen own.tokens)) (sym opened) (record {
    legal = legal_then;
    count_is = at.count_is ∙ sym (own_tokens tokens b v.seen w.seen man.box seen.begins legal_then same_part);
  });
}
  where
    opened : w.opened ≡ Some tokens
    opened = ap (λ (x : TokenView). x.opened) view ∙ has

    legal_then : IsHistoryOf tokens w.seen
    legal_then = legal_there tokens w.opened w.seen opened legal

    same_part : token_part_of b w.seen ≡ token_part_of b v.seen
    same_part = seen.own b man.post

    at : HasTokens b v.seen own.tokens tokens
    at = subst (λ (o : Option Tokens). IfSome o (HasTokens b v.seen own.tokens)) has man.tokens

-- the longer of a beginning and the whole is the whole
pub longer_whole : (xs ys : Es) → IsPrefix xs ys → longer xs ys ≡ ys
longer_whole xs ys p = let l = length-append xs p.0 in let e = ap length p.1 in
    let h : length xs ≤ length ys = omega (arith, l, e) in
    ⊎_elim (λ (t : (leb (length xs) (length ys) ≡ true) × (length xs ≤ length ys)).
    if_yes (leb (length xs) (length ys)) ys xs t.0)
    (λ (t : (leb (length xs) (length ys) ≡ false) × (length ys < length xs)). let f = t.1 in
    absurd (omega (arith, h, f))) (leb_tells (length xs) (length ys))
