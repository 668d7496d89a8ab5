use Rattle.std.proofs.Common.{◌≡◌, List, sym, ◌∙◌, subst, get_or}
use Rattle.token_law.specs.declared.calls.TokenAct.TheVariants.{Give}
use Rattle.token_law.specs.declared.calls.TokenCall.{TokenCall}
use Rattle.token_law.specs.declared.calls.TokenEntry.{TokenEntry}
use Rattle.token_law.specs.States.{opening_tokens}
use Rattle.token_block.specs.Steps.{with_call}
use Rattle.token_block.specs.Working.{AreTogether}
use Rattle.token_block.proofs.Together.{call_at, few_done, next_entry, next_told, starts}
use Rattle.token_block.proofs.working.perform_calls.Goals as goal

pub loop-call-init : goal.loop-call-init
loop-call-init c =
    let line = c.args.line.now.table.shared in record {
      entries = c.new-entries.ensures.items;
      together = subst
          (λ (es : List TokenEntry). AreTogether line.table_id line.key es c.meet.new.self c.meet.new.other)
          (sym c.new-entries.ensures.items)
          (starts line.table_id line.key c.args.one.now c.args.other.now c.meet.new.self c.meet.new.other
          c.requires.fresh.0 c.requires.fresh.1 c.meet.ensures);
    }

pub perform_call-reply-requires-clause-call : goal.perform_call-reply-requires-clause-call
perform_call-reply-requires-clause-call c =
    call_at c.args.calls.now c.loop-call.call-index _ c.requires.calls c.loop-call-test.true

pub perform_call-reply-requires-clause-together : goal.perform_call-reply-requires-clause-together
perform_call-reply-requires-clause-together c =
    let key = c.args.line.now.table.shared.key in (
      c.loop-call.entries.items,
      few_done (opening_tokens key.at_0 key.at_1) c.args.calls.now c.loop-call.call-index c.loop-call.entries.items
          c.loop-call.invariant.entries c.loop-call-test.true c.requires.few,
      c.loop-call.invariant.together,
    )

pub loop-call-preserved : goal.loop-call-preserved
loop-call-preserved c =
    let line = c.args.line.now.table.shared in
    let done = c.loop-call.entries.items in
    let inv = c.loop-call.invariant in
    let p = c.perform_call-reply in
    let call : TokenCall = get_or c.args.calls.now c.loop-call.call-index (record { box_no = 0; act = Give }) in
    let items : c.push.new.self.items ≡ with_call line.key done call.box_no call.act =
    c.in_ok-push.ensures.items ∙ next_entry line.key done call p.result (p.ensures.reply done inv.together) in
    record {
      entries = items ∙ next_told line.key c.args.calls.now c.loop-call.call-index _ done c.loop-call-test.true
          inv.entries;
      together = subst (λ (es : List TokenEntry). AreTogether line.table_id line.key es p.new.one p.new.other)
          (sym items) (p.ensures.together done inv.together);
    }
