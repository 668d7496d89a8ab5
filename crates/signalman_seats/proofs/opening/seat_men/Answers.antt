use Rattle.std.proofs.Common.{rules, ◌≡◌, ℕ, List, [], ◌∷◌, ◌++◌, slice_index, slice_index_or, sym, ◌∙◌, subst}
use Rattle.signalman_seats.specs.Men.{IsFresh, Man}
use Rattle.signalman_seats.proofs.Fresh.{pushed}
use Rattle.signalman_seats.proofs.opening.seat_men.Goals as goal

pub loop-i-preserved : goal.loop-i-preserved
loop-i-preserved c =
    let line = c.args.line.now in
    let plan = c.args.plan.now in
    let rooms = c.args.lengths.now in
    let man = c.in-Ok.man in
    let P : ℕ → Man → Type 0 = λ k m. IsFresh line.table.shared.table_id plan k (slice_index rooms k) m in
    let items : c.push_reserved.new.self.items ≡ c.loop-i.men.items ++ man ∷ [] = c.push_reserved.ensures.items in
    let fresh : P c.loop-i.i man = c.in-Ok.ensures.fresh in
    record {
      table = c.seat_man.ensures.table ∙ c.loop-i.invariant.table;
      view = c.seat_man.ensures.view ∙ c.loop-i.invariant.view;
      count = search rules;
      room = search rules;
      fresh = λ k d h. subst (λ (ms : List Man). P k (slice_index_or ms k d)) (sym items)
          (pushed P c.loop-i.men.items man c.loop-i.i (search rules) c.loop-i.invariant.fresh fresh k d h);
    }
