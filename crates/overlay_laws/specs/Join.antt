-- The lower ends of the vertical edges of two walks, sorted, are joined; at some of them a part of the panels begins or ends.
-- Assumes nothing.
use Rattle.std.specs.Prelude.{Bool, true, false, cond, not, List, [], ◌∷◌, ℕ, zero, suc, get_or, drop}
use Rattle.grid.specs.declared.Corner.{Corner}
use Rattle.grid.specs.Grid.{origin}
use Rattle.row_laws.specs.Feet.{ahead}

-- a lower end, and which of the two lists have it
pub record Stop : Type 0 where
  pub at : Corner
  pub one : Bool
  pub two : Bool

abbrev pub first : List Corner → Corner
first P = get_or P 0 origin

-- the first of P does not come after the first of Q
abbrev pub leads : List Corner → List Corner → Bool
leads [] Q = false
leads (p ∷ P) [] = true
leads (p ∷ P) (q ∷ Q) = not (ahead q p)

-- the first stop by which lists lead, and then those that `rest` makes of what is left
abbrev pub stops_by : (List Corner → List Corner → List Stop) → List Corner → List Corner → Bool → Bool → List Stop
stops_by rest P Q true true = record { at = first P; one = true; two = true } ∷ rest (drop 1 P) (drop 1 Q)
stops_by rest P Q true false = record { at = first P; one = true; two = false } ∷ rest (drop 1 P) Q
stops_by rest P Q false true = record { at = first Q; one = false; two = true } ∷ rest P (drop 1 Q)
stops_by rest P Q false false = []

-- all of P and Q in order, n of them at most
abbrev pub join : ℕ → List Corner → List Corner → List Stop
join zero P Q = []
join (suc n) P Q = stops_by (λ (X Y : List Corner). join n X Y) P Q (leads P Q) (leads Q P)

-- one of two, and not both
abbrev pub differ : Bool → Bool → Bool
differ true b = not b
differ false b = b

-- the stops at which `part` of being in the one and in the other changes, if it is a and b before the first
abbrev pub changes : (Bool → Bool → Bool) → Bool → Bool → List Stop → List Corner
changes part a b [] = []
changes part a b (t ∷ J) =
    cond (differ (part a b) (part (differ a t.one) (differ b t.two)))
    (t.at ∷ changes part (differ a t.one) (differ b t.two) J) (changes part (differ a t.one) (differ b t.two) J)
