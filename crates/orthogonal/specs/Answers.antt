-- What the call answers. Assumes nothing.
use Rattle.std.specs.Prelude.{Result}
use Rattle.answer.specs.declared.Refusal.{Refusal}
use Rattle.orthogonal.specs.declared.Enclosed.{Enclosed}

-- an outlined hull, or a refusal
abbrev pub Orthogonal : Type 0
Orthogonal = Result Enclosed Refusal
