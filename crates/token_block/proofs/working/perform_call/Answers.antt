use Rattle.std.proofs.Common.{◌≡◌, ℕ, List, sym, ap, ◌∙◌, subst, arith}
use Rattle.token_law.specs.declared.calls.TokenEntry.{TokenEntry}
use Rattle.token_block.specs.Men.{Man, HaveMet}
use Rattle.token_block.specs.Steps.{entry_after, with_call}
use Rattle.token_block.specs.Working.{AreTogether}
use Rattle.token_block.proofs.Together.{first_called, second_called}
use Rattle.token_block.proofs.working.perform_call.Goals as goal
use Rattle.token_block.proofs.working.perform_call.Goals.{then-call-eq0, else-call-eq0}

-- the men after the call, and its reply
called : (c : goal.After-meet) (done : List TokenEntry)
    → AreTogether c.args.line.now.table.shared.table_id c.args.line.now.table.shared.key done c.args.one.now
    c.args.other.now
    → AreTogether c.args.line.now.table.shared.table_id c.args.line.now.table.shared.key
    (with_call c.args.line.now.table.shared.key done c.args.call.box_no c.args.call.act) c.meet.new.self
    c.meet.new.other
    × (c.if-call-eq0.reply
    ≡ (entry_after c.args.line.now.table.shared.key done c.args.call.box_no c.args.call.act).reply)
called c done at =
    let id = c.args.line.now.table.shared.table_id in
    let key = c.args.line.now.table.shared.key in
    let act = c.args.call.act in
    let one = c.args.one.now in
    let other = c.args.other.now in
    let n = c.meet.new.self in
    let m = c.meet.new.other in
    elim c.if-call-eq0.branch [
      | then-call-eq0 w ↦
          let p = w.perform-reply in
          let met : HaveMet key p.new.self other n m =
          subst (λ (x : Man). HaveMet key p.new.self x n m) w.other-is
          (subst (λ (x : Man). HaveMet key x c.if-call-eq0.other n m) w.one-is c.meet.ensures) in
          let r = first_called id key done one other p.new.self n m act p.result at p.ensures.line p.ensures.box_no
          p.ensures.performed p.ensures.calls met in
          let back : 0 ≡ c.args.call.box_no = sym w.if-call-eq0.true in (
            subst (λ (b : ℕ). AreTogether id key (with_call key done b act) n m) back r.0,
            w.reply-is ∙ (r.1 ∙ ap (λ (b : ℕ). (entry_after key done b act).reply) back),
          )
      | else-call-eq0 w ↦
          let p = w.perform-reply-else-call-eq0 in
          let met : HaveMet key one p.new.self n m =
          subst (λ (x : Man). HaveMet key one x n m) w.other-is
          (subst (λ (x : Man). HaveMet key x c.if-call-eq0.other n m) w.one-is c.meet.ensures) in
          let r = second_called id key done one other p.new.self n m act p.result at p.ensures.line p.ensures.box_no
          p.ensures.performed p.ensures.calls met in
          let ne = w.if-call-eq0.false in
          let small = c.requires.call.box in
          let back : 1 ≡ c.args.call.box_no = omega (arith, ne, small) in (
            subst (λ (b : ℕ). AreTogether id key (with_call key done b act) n m) back r.0,
            w.reply-is ∙ (r.1 ∙ ap (λ (b : ℕ). (entry_after key done b act).reply) back),
          )
    ]

pub returns-clause-together : goal.returns-clause-together
returns-clause-together c done at = (called c done at).0

pub returns-clause-reply : goal.returns-clause-reply
returns-clause-reply c done at = (called c done at).1
