-- What the call answers. Assumes nothing.
use Rattle.std.specs.Prelude.{Result}
use Rattle.answer.specs.declared.Refusal.{Refusal}
use Rattle.polygon_ring.specs.declared.Found.{Found}

-- a chain, or a refusal
abbrev pub Given : Type 0
Given = Result Found Refusal
