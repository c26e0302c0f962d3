-- Stores of 0 that follow one another, and the words that they leave.
-- Assumes nothing.
use mathlib.Core.List.{List, ◌++◌}
use mathlib.Core.Path.{◌≡◌, ap, sym, ◌∙◌}
use borrow.Rule.Slice.PartMut.{put_mid}
use Rattle.std.proofs.lemmas.Slice.{put_mid-paste}
use Rattle.std.proofs.lemmas.List.{take_all}
use Rattle.std.proofs.lemmas.List.Edits.{sets-eq}
use Prim.Native.Nat.{ℕ, ◌+◌, ◌%◌, ◌≤◌}
use native.Mathlib.Omega.{arith}
use lib.ListN.{set, length, length-set, length-take, length-drop, length-replicate, replicate, take, drop}
use lib.Seq.{sets}
use Rattle.layout.specs.Table.{word_at, neighbour_word, link_word}
use Rattle.table_laws.specs.Model.{unset_in}

pub length_unset : (t : List ℕ) (u v d : ℕ) → length (unset_in t u v d) ≡ length t
length_unset t u v d =
    length-set (set (set (set t (word_at u (neighbour_word d)) 0) (word_at u (link_word d)) 0) (word_at v (neighbour_word ((d + 2) % 4))) 0) (word_at v (link_word ((d + 2) % 4))) 0
    ∙ length-set (set (set t (word_at u (neighbour_word d)) 0) (word_at u (link_word d)) 0) (word_at v (neighbour_word ((d + 2) % 4))) 0
    ∙ length-set (set t (word_at u (neighbour_word d)) 0) (word_at u (link_word d)) 0
    ∙ length-set t (word_at u (neighbour_word d)) 0

-- a part that was filled
pub filled_part : (t ys : List ℕ) (a k n x : ℕ) → k ≡ n → a + n ≤ length t → ys ≡ replicate (length (take k (drop a t))) x → put_mid a k t ys ≡ sets t a (replicate n x)
filled_part t ys a k n x e h f =
    let m : length (take k (drop a t)) ≡ n = simp (length-take, length-drop) (omega arith) in
    let w : n ≡ length (replicate n x) = omega (arith, length-replicate {A = ℕ}) in
    put_mid-paste a k t ys (replicate n x) n (f ∙ ap (λ (j : ℕ). replicate j x) m) (sym e) w
    ∙ ap (λ (l : List ℕ). take a t ++ l ++ drop (a + n) t) (take_all n (replicate n x) (omega arith))
    ∙ ap (λ (j : ℕ). take a t ++ replicate n x ++ drop (a + j) t) w
    ∙ sym (sets-eq (replicate n x) t a (omega arith))
