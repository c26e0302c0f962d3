-- The measure of `sheet_cells::spell_decimal` is how many characters are left to write.
use Rattle.sheet_cells.proofs.+spell_decimal.Given as goal

abbrev pub decreases-spell_decimal : goal.decreases-spell_decimal
decreases-spell_decimal l = l.k
