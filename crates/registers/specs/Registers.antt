-- The general registers, a list of 32 numbers (manual 2.1.1; 01, "The guest machine").
use Rattle.std.specs.Prelude.{ℕ, ◌%◌, cond, List, eqb, get_or, set}

-- GR[i], where i is a field of five bits
unfoldable pub reg : List ℕ → ℕ → ℕ
reg regs i = get_or regs (i % 32) 0

-- GR[i] = v. "Register 0 is always zero; a write to it is dropped"
unfoldable pub written : List ℕ → ℕ → ℕ → List ℕ
written regs i v = cond (eqb (i % 32) 0) regs (set regs (i % 32) v)
