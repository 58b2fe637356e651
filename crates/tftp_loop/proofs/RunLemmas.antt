-- Runs, one after the other. For seven functions and eight other files.
use Rattle.tftp_loop.proofs.Common.{◌≡◌, sym, subst, Run, Start, Then}

module _ {A : Type 0} {LoopStep : A → A → Type 0} where
  -- one run after another is a run
  pub onward : {x y z : A} → Run LoopStep x y → Run LoopStep y z → Run LoopStep x z
  onward r Start = r
  onward r (Then q d) = Then (onward r q) d

  -- nothing was done
  pub idle : {x y : A} → y ≡ x → Run LoopStep x y
  idle {x} {y} e = let At : A → Type 0 = λ z. Run LoopStep x z in subst At (sym e) Start

  -- one step is a run
  pub once : {x y : A} → LoopStep x y → Run LoopStep x y
  once d = Then Start d
