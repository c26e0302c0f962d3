-- The panels of two rooms that are in the first only, in the second only, and in both (RULES 16). Assumes nothing.
use Rattle.std.specs.Prelude.{List, ℕ}
use Rattle.grid.specs.declared.{Corner.Corner, Panel.Panel}
use Rattle.panels.specs.Inside.{Inside}
use Rattle.overlay.specs.declared.{Part.Part, Part.TheVariants.First, Part.TheVariants.Second, Part.TheVariants.Both}

-- the panel is in this part of the room with start s and steps ds and that with start t and steps es
abbrev pub InPart : Part → Corner → List ℕ → Corner → List ℕ → Panel → Type 0
InPart First s ds t es p = Inside s ds p × (Inside t es p → ⊥)
InPart Second s ds t es p = Inside t es p × (Inside s ds p → ⊥)
InPart Both s ds t es p = Inside s ds p × Inside t es p
