-- What the call answers. Assumes nothing.
use Rattle.std.specs.Prelude.{Result}
use Rattle.answer.specs.declared.Refusal.{Refusal}
use Rattle.overlay.specs.declared.Measures.{Measures}

-- three lists, or a refusal
abbrev pub Overlaid : Type 0
Overlaid = Result Measures Refusal
