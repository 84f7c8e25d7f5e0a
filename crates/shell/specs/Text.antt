-- What contracts see of a text, and which bytes wait as more are put.
use Rattle.std.specs.Prelude.{ℕ, ◌==◌, if◌then◌else◌, List, [], ◌∷◌, ◌++◌, length, take}

-- The places of the bytes, and how many of them wait.
pub record Buffer : Type 0 where
  pub bytes : List ℕ
  pub count : ℕ

-- The bytes that wait: those at the first places.
abbrev pub waits : Buffer → List ℕ
waits t = take t.count t.bytes

-- A byte more, behind those that wait; alone where 4096 waited, which went out.
abbrev pub put_one : List ℕ → ℕ → List ℕ
put_one waiting byte = if length waiting == 4096 then byte ∷ [] else waiting ++ byte ∷ []

-- Bytes more, one after the other.
abbrev pub put_all : List ℕ → List ℕ → List ℕ
put_all waiting [] = waiting
put_all waiting (byte ∷ bytes) = put_all (put_one waiting byte) bytes
