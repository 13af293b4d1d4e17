-- No two kinds of fault have the same numbers, and from the numbers back comes the fault that was told.
use Rattle.std.proofs.Common.{◌≡◌, refl, true}
use Rattle.fault.specs.declared.Fault.{Fault}
use Rattle.fault.specs.declared.Fault.TheVariants.{Adef, Adem, Ale, Bce, Syscall, Break, Ine}
use Rattle.fault.specs.Differ.{all_differ}
use Rattle.fault.specs.Fault.{telling_of, kinds, same_kind, untold}

pub kinds_differ : all_differ (λ f g. same_kind (telling_of f) (telling_of g)) kinds ≡ true
kinds_differ = refl

pub told_back : (f : Fault) → untold (telling_of f) ≡ f
told_back (Adef pc) = refl
told_back (Adem a) = refl
told_back (Ale a) = refl
told_back Bce = refl
told_back (Syscall c) = refl
told_back (Break c) = refl
told_back (Ine w) = refl
