-- The numbers of the refusals tell them apart.
use Rattle.std.specs.Prelude.{◌≡◌, refl, true, eqb}
use Rattle.fault.specs.Differ.{all_differ}
use Rattle.session.specs.declared.Refusal.{Refusal}
use Rattle.session.specs.declared.Refusal.TheVariants.{CodeLength, WindowLength, WindowPlace, ZeroRegister, Budget, Total, NoSyscall, FileKind, FileCut, FileExtra, BufferLength}
use Rattle.session.specs.Numbers.{number_of, refusals, numbered}

-- Different refusals have different numbers: no two of the list have the same.
pub refusals_differ : all_differ (λ r s. eqb (number_of r) (number_of s)) refusals ≡ true
refusals_differ = refl

-- From the number back to the refusal, so that none is forgotten: one that is added without a number of its own is refused here.
pub numbered_back : (r : Refusal) → numbered (number_of r) ≡ r
numbered_back CodeLength = refl
numbered_back WindowLength = refl
numbered_back WindowPlace = refl
numbered_back ZeroRegister = refl
numbered_back Budget = refl
numbered_back Total = refl
numbered_back NoSyscall = refl
numbered_back FileKind = refl
numbered_back FileCut = refl
numbered_back FileExtra = refl
numbered_back BufferLength = refl
