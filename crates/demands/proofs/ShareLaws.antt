-- An input that is shared out in any number of parts.
-- Assumes nothing.
use mathlib.Core.Path.{◌≡◌, refl, sym, ap, ◌∙◌}
use mathlib.Core.List.{List, [], ◌∷◌, ◌++◌, append_assoc}
use Prim.Native.Nat.{ℕ}
use Rattle.line_frame.specs.Program.{output_from}
use Rattle.line_frame.proofs.OutputLaws.{output_parts}
use Rattle.demands.specs.Shares.{ended_parts, outputs_of}

module _ (told last : List ℕ → List ℕ) where
  pub outputs_shared : (ss : List (List ℕ)) (t : List ℕ) → output_from told last [] (ended_parts ss ++ t) ≡ outputs_of (output_from told last []) ss ++ output_from told last [] t
  unfolding ended_parts outputs_of
  outputs_shared [] t = refl
  outputs_shared (s ∷ ss) t =
      ap (output_from told last []) (append_assoc (s ++ (10 ∷ [])) (ended_parts ss) t ∙ append_assoc s (10 ∷ []) (ended_parts ss ++ t))
      ∙ output_parts told last s (ended_parts ss ++ t)
      ∙ ap (λ (x : List ℕ). output_from told last [] (s ++ (10 ∷ [])) ++ x) (outputs_shared ss t)
      ∙ sym (append_assoc (output_from told last [] (s ++ (10 ∷ []))) (outputs_of (output_from told last []) ss) (output_from told last [] t))
