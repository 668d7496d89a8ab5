use Rattle.std.proofs.Common.{◌≡◌, ℕ, ◌+◌, List, take, Result, Ok, Err, None, IfOk, IfSome, refl}
use Rattle.std.specs.Global.{Vec}
use Rattle.rail_text.specs.declared.fault.FetchFault.{FetchFault}
use Rattle.signalbox_top.proofs.files.ReasonedFilesShelf.TheImpl.Goals as goal

-- where the shelf tells nothing, nothing is said of what it gave
untold : (result : Result (Vec ℕ) FetchFault) (P : Vec ℕ → List ℕ → Type 0) → IfOk result (λ v. IfSome None (P v))
untold (Ok v) P = tt
untold (Err e) P = tt

pub fetch-tells : goal.fetch-tells
fetch-tells g c = record {
  bytes = untold c.result (λ v all. v.items ≡ take (c.args.limit + 1) all);
  few = c.ensures.few;
  same = λ n. refl;
  later = c.ensures.later;
  cause = c.ensures.cause;
}
