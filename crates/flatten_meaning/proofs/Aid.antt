-- What specs/Aid.antt says of the aid chart's flat table, by computation. Assumes nothing.
use Rattle.std.specs.Prelude.{ℕ, ◌≡◌, refl, List, length, get_or}
use Rattle.std.proofs.Common.{sym, ap, subst}
use Rattle.flat_meaning.specs.Opened.{flat_opened}
use Rattle.flatten_meaning.specs.Encoded.{header, encode}
use Rattle.flatten_meaning.specs.Opened.{flatten_opened}
use Rattle.flatten_meaning.specs.Aid.{flat_aid, flat_words, Sizes, Bounds, SevenEvents}

words_are : encode flat_aid ≡ flat_words
unfolding flatten_opened
words_are = refl

pub sizes : Sizes
unfolding header encode
sizes = record {
  guards = ap (λ (ws : List ℕ). get_or ws 8 0) words_are;
  literals = ap (λ (ws : List ℕ). get_or ws 9 0) words_are;
  rules = ap (λ (ws : List ℕ). get_or ws 11 0) words_are;
  words = ap length words_are;
}

pub bounds : Bounds
unfolding flatten_opened
bounds = record { guards = refl; literals = refl; rules = refl; words = refl }

seven_by_words : SevenEvents flat_words
unfolding flat_opened
seven_by_words = record {
  started = λ a b c d. refl;
  first = refl;
  second = refl;
  third = refl;
  fourth = refl;
  fifth = refl;
  sixth = refl;
  seventh = refl;
}

pub seven : SevenEvents (encode flat_aid)
seven = subst SevenEvents (sym words_are) seven_by_words
