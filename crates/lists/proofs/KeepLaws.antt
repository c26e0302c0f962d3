-- What `gather` adds to a list: the elements that are not there yet, in order.
-- Assumes nothing.
use mathlib.Core.Bool.{Bool, true, false, not, ◌||◌}
use mathlib.Core.List.Memᴰ
use mathlib.Core.List.{List, [], ◌∷◌, ◌++◌, append-nil, append_assoc, Memᴰ}
use mathlib.Core.Logic.{⊎_elim}
use mathlib.Core.Path.{◌≡◌, refl, ap, sym, ◌∙◌}
use Rattle.lists.specs.Lists.{any, gather, Distinct}
use Rattle.lists.proofs.FindLaws.{any_append}
use Rattle.lists.proofs.GatherLaws.{add_cases}

-- the elements that pass, in order
abbrev pub keep : {A : Type 0} → (A → Bool) → List A → List A
keep f [] = []
keep f (x ∷ xs) = elim (f x) [ true ↦ x ∷ keep f xs | false ↦ keep f xs ]

-- two tests that agree on the elements keep the same
keep_cong : {A : Type 0} (f g : A → Bool) (l : List A) → ((x : A) → Memᴰ x l → f x ≡ g x) → keep f l ≡ keep g l
keep_cong f g [] h = refl
keep_cong f g (x ∷ l) h = by (g x) (h x (Memᴰ.head refl)) refl (keep_cong f g l (λ y m. h y (Memᴰ.tail m)))
  where
    by : (b : Bool) → f x ≡ g x → g x ≡ b → keep f l ≡ keep g l → keep f (x ∷ l) ≡ keep g (x ∷ l)
    by true e p ih = rw (e, p, keep) (ap (λ (k : List _). x ∷ k) ih)
    by false e p ih = rw (e, p, keep) ih

module _ {A : Type 0} (eq : A → A → Bool) (sound : (x y : A) → eq x y ≡ true → x ≡ y) where
  or_nothing : (b c : Bool) → c ≡ false → (b || c) ≡ b
  or_nothing true c e = refl
  or_nothing false c e = e

  -- an element that is not x is there after x was added exactly if it was before
  other : (seen : List A) (x y : A) → (y ≡ x → ⊥) → any (eq y) (seen ++ (x ∷ [])) ≡ any (eq y) seen
  other seen x y f = any_append (eq y) seen (x ∷ []) ∙ or_nothing (any (eq y) seen) (any (eq y) (x ∷ [])) (by (eq y x) refl)
    where
      by : (b : Bool) → eq y x ≡ b → any (eq y) (x ∷ []) ≡ false
      by true e = absurd (f (sound y x e))
      by false e = rw e

  pub gather-keep : (seen xs : List A) → Distinct xs → gather eq seen xs ≡ seen ++ keep (λ x. not (any (eq x) seen)) xs
  gather-keep seen [] d = sym (append-nil seen)
  gather-keep seen (x ∷ xs) d =
      ⊎_elim
      (λ h. rw h.1 (gather-keep seen xs d.1 ∙ ap (λ (k : List A). seen ++ k) (sym (dropped h.0))))
      (λ h.
      rw h.1
      (gather-keep (seen ++ (x ∷ [])) xs d.1
      ∙ ap (λ (k : List A). (seen ++ (x ∷ [])) ++ k) (keep_cong (λ y. not (any (eq y) (seen ++ (x ∷ [])))) (λ y. not (any (eq y) seen)) xs (λ y m. ap not (other seen x y (λ e. d.0 (Memᴰ.cast (sym e) m)))))
      ∙ append_assoc seen (x ∷ []) (keep (λ y. not (any (eq y) seen)) xs)
      ∙ ap (λ (k : List A). seen ++ k) (sym (kept h.0))))
      (add_cases eq seen x)
    where
      dropped : any (eq x) seen ≡ true → keep (λ y. not (any (eq y) seen)) (x ∷ xs) ≡ keep (λ y. not (any (eq y) seen)) xs
      dropped e = rw (e, keep)

      kept : any (eq x) seen ≡ false → keep (λ y. not (any (eq y) seen)) (x ∷ xs) ≡ x ∷ keep (λ y. not (any (eq y) seen)) xs
      kept e = rw (e, keep)
