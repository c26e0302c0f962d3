-- P1 to P12: the one claim, every fact of it computed; of a hull, the list is, and a law says that it is the hull.
-- Assumes nothing.
use mathlib.Core.List.{List, [], ◌∷◌}
use mathlib.Core.Path.{◌≡◌, refl, subst}
use Prim.Native.Nat.{ℕ}
use Rattle.grid.specs.declared.Corner.{Corner}
use Rattle.grid.specs.Grid.{origin, corners_from}
use Rattle.hull.specs.Hull.{HullIs}
use Rattle.hull_laws.specs.Chain.{hull_of}
use Rattle.hull_laws.proofs.HullCases.{hull_of_none, hull_of-022, hull_of-001100322223}
use Rattle.hull_laws.proofs.HullLaws.{hull_of_hull}
use Rattle.cases.specs.Rows.{Worked, rows}

-- the list that is computed is the hull
hull_by_lem : (ds : List ℕ) {h : List Corner} → hull_of origin ds ≡ h → HullIs (corners_from origin ds) h
hull_by_lem ds e = subst (HullIs (corners_from origin ds)) e (hull_of_hull origin ds)

-- a fact and the facts after it, a row and the rows after it
infixr 20 ◌&◌
◌&◌ : {A B : Type 0} → A → B → A × B
a & b = (a, b)

pub worked : Worked rows
worked =
    (refl & refl & refl & refl & hull_by_lem [] hull_of_none & tt)
    & (refl & refl & refl & tt)
    & (refl & refl & tt)
    & (refl & refl & refl & tt)
    & (refl & refl & refl & hull_by_lem (0 ∷ 2 ∷ 2 ∷ []) hull_of-022 & tt)
    & (refl & refl & refl & refl & tt)
    & (refl & tt)
    & (refl & refl & refl & refl & refl & refl & refl & (refl, refl) & (refl, refl) & tt)
    & (refl & tt)
    & (refl & refl & refl & refl & tt)
    & (refl & refl & refl & hull_by_lem (0 ∷ 0 ∷ 1 ∷ 1 ∷ 0 ∷ 0 ∷ 3 ∷ 2 ∷ 2 ∷ 2 ∷ 2 ∷ 3 ∷ []) hull_of-001100322223 & refl & tt)
    & ((refl, refl) & tt)
    & ((refl, refl) & tt)
    & tt
