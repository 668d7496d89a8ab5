use Rattle.std.proofs.Common.{◌≡◌, List, sym, ap, ◌∙◌, get_or}
use Rattle.token_law.specs.declared.calls.TokenAct.TheVariants.{Give}
use Rattle.token_law.specs.declared.calls.TokenCall.{TokenCall}
use Rattle.token_law.specs.declared.calls.TokenEntry.{TokenEntry}
use Rattle.token_law.specs.History.{token_state_of}
use Rattle.token_law.specs.Law.{TokenTold, token_step}
use Rattle.token_law.specs.States.{TokenState}
use Rattle.token_block.specs.declared.view.Tokens.{Tokens}
use Rattle.token_block.specs.Steps.{entry_after, with_call}
use Rattle.token_block.proofs.Changes.{state_grows}
use Rattle.token_block.proofs.Together.{call_at, next_entry, next_told}
use Rattle.token_block.proofs.working.work_by_law.Goals as goal

pub perform-reply-requires : goal.perform-reply-requires
perform-reply-requires c = call_at c.args.calls.now c.loop-call.call-index _ c.requires.calls c.loop-call-test.true

pub loop-call-preserved : goal.loop-call-preserved
loop-call-preserved c =
    let tokens : Tokens = record { at_0 = c.args.at_0; at_1 = c.args.at_1 } in
    let done = c.loop-call.entries.items in
    let inv = c.loop-call.invariant in
    let p = c.perform-reply in
    let call : TokenCall = get_or c.args.calls.now c.loop-call.call-index (record { box_no = 0; act = Give }) in
    let reply : p.result ≡ (entry_after tokens done call.box_no call.act).reply =
    sym (ap (λ (t : TokenTold). t.reply) p.ensures) ∙
    ap (λ (s : TokenState). (token_step s call.box_no call.act).reply) inv.line in
    let items : c.push.new.self.items ≡ with_call tokens done call.box_no call.act =
    c.in_ok-push.ensures.items ∙ next_entry tokens done call p.result reply in
    record {
      entries = items ∙ next_told tokens c.args.calls.now c.loop-call.call-index _ done c.loop-call-test.true
          inv.entries;
      line = sym (ap (λ (t : TokenTold). t.after) p.ensures) ∙
          (ap (λ (s : TokenState). (token_step s call.box_no call.act).after) inv.line ∙
          (sym (state_grows tokens done (entry_after tokens done call.box_no call.act)) ∙
          ap (λ (es : List TokenEntry). token_state_of c.args.at_0 c.args.at_1 es) (sym items)));
    }
