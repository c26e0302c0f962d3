-- Input that comes in parts: what one call writes, whatever a program writes for a line.
-- Assumes nothing.
use Rattle.std.specs.Prelude.{◌≡◌, Bool, true, false, cond, List, [], ◌∷◌, ◌++◌, length, take, ℕ, eqb, ltb}
use Rattle.line_frame.specs.{Sizes.most_line, Program.last_of, Begun.line_length, Begun.has_feed, Begun.kept_of}

-- what a program writes for a line, if the bytes h of it are held: when the line ends after the bytes r; when a part of the input
-- ends there, and the line goes on; and when the input ends
pub record Job : Type 0 where
  pub told : List ℕ → List ℕ → List ℕ
  pub early : List ℕ → List ℕ → List ℕ
  pub last : List ℕ → List ℕ
  -- a line is passed only if the output is long enough for this many bytes
  pub most : ℕ

-- a job is to write `told` of each line, and `last` of a last line that lacks its line feed: it does so for whole lines, and what
-- was written early and what is written of the kept bytes is what is written of all
pub record Does (J : Job) (told last : List ℕ → List ℕ) : Type 0 where
  pub whole : (l : List ℕ) → J.told [] l ≡ told l
  pub end : (l : List ℕ) → J.early [] l ++ J.last (kept_of l) ≡ last_of last l
  pub more : (h s r : List ℕ) → J.early h s ++ J.told (kept_of (h ++ s)) r ≡ J.told h (s ++ r)
  pub on : (h s r : List ℕ) → J.early h s ++ J.early (kept_of (h ++ s)) r ≡ J.early h (s ++ r)
  pub rest : (h : List ℕ) → J.early h [] ++ J.last (kept_of h) ≡ J.last h

-- what one call writes
abbrev pub told_of : Job → List ℕ → List ℕ → List ℕ
told_of J h s = cond (has_feed s) (J.told h (take (line_length s) s)) (J.early h s)

-- what is still to be written, if h is held, the bytes r of the line came after it and the others are left
unfoldable pub owed_from : Job → List ℕ → List ℕ → List ℕ → List ℕ
owed_from J h r [] = J.early h r ++ J.last (kept_of (h ++ r))
owed_from J h r (b ∷ s) = elim (eqb b 10) [ true ↦ J.told h r ++ owed_from J [] [] s | false ↦ owed_from J h (r ++ (b ∷ [])) s ]

-- with h held, the bytes w are written for the bytes s and h' is held then: whatever comes after, w and what is owed then is what
-- was owed
abbrev pub Fed : Job → List ℕ → List ℕ → List ℕ → List ℕ → Type 0
Fed J h s w h' = (t : List ℕ) → w ++ owed_from J h' [] t ≡ owed_from J h [] (s ++ t)

-- all that is written for the parts of an input, one after the other, and at the end, if h was held at first
pub data Run (J : Job) : List ℕ → List (List ℕ) → List ℕ → Type 0 where
  ended : {h : List ℕ} → Run J h [] (J.last h)
  fed : {h o : List ℕ} {ss : List (List ℕ)} (s w h' : List ℕ) → Fed J h s w h' → Run J h' ss o → Run J h (s ∷ ss) (w ++ o)

-- the parts, one after the other
abbrev pub joined : List (List ℕ) → List ℕ
joined [] = []
joined (s ∷ ss) = s ++ joined ss

-- a job that writes f of each line when it ends, and of the last line too, and for no line more than n bytes
abbrev pub tells_each : (List ℕ → List ℕ) → ℕ → Job
tells_each f n = record { told = λ h r. f (h ++ r); early = λ h r. []; last = last_of f; most = n }

-- more bytes than a frame has
abbrev pub is_long : List ℕ → Bool
is_long h = ltb most_line (length h)

-- a job that writes f of each line and its line feed, and of a last line that lacks it f alone; a line that is longer than a
-- frame is passed on as it comes
abbrev pub passes_on : (List ℕ → List ℕ) → ℕ → Job
passes_on f n = record {
  told = λ h r. cond (is_long h) r (f (h ++ r)) ++ (10 ∷ []);
  early = λ h r. cond (is_long h) r (cond (is_long (h ++ r)) (h ++ r) []);
  last = λ h. cond (is_long h) [] (f h);
  most = n;
}

-- bytes of a part of the input at most
abbrev pub most_part : ℕ
most_part = 65536

-- bytes in which a line feed is looked for together
abbrev pub near : ℕ
near = 32
