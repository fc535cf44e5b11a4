-- What a test asks of one text (SimpleDB Developer Guide, "Comparison Operators"): texts are compared by their
-- bytes.
use Rattle.std.specs.Prelude.{ℕ, Bool, true, false, not, ◌&&◌, List}
use Rattle.std.specs.declared.cmp.Ordering.{Ordering}
use Rattle.std.specs.declared.cmp.Ordering.TheVariants.{Less}
use Rattle.std.specs.List.{list_any}
use Rattle.std.specs.Str.{bytes_eq}
use Rattle.sdb_base.specs.Texts.{text_cmp}
use Rattle.sdb_parse.specs.declared.test.Test.{Test}
use Rattle.sdb_parse.specs.declared.test.Test.TheVariants as test
use Rattle.sdb_parse.specs.Patterns.{is_like}

-- below, where texts compare so
abbrev pub is_less : Ordering → Bool
is_less Less = true
is_less _ = false

-- the first text is below the second
abbrev pub is_below : List ℕ → List ℕ → Bool
is_below a b = is_less (text_cmp a b)

-- the first text is the second or below it
abbrev pub is_at_most : List ℕ → List ℕ → Bool
is_at_most a b = not (is_below b a)

-- whether one text meets the test; a null test asks no text
abbrev pub fits : Test → List ℕ → Bool
fits (test.Eq wanted) text = bytes_eq text wanted
fits (test.Ne wanted) text = not (bytes_eq text wanted)
fits (test.Lt bound) text = is_below text bound
fits (test.Le bound) text = is_at_most text bound
fits (test.Gt bound) text = is_below bound text
fits (test.Ge bound) text = is_at_most bound text
fits (test.Like pattern) text = is_like pattern text
fits (test.NotLike pattern) text = not (is_like pattern text)
fits (test.Between low high) text = is_at_most low text && is_at_most text high
fits (test.OneOf texts) text = list_any (bytes_eq text) texts
fits test.IsNull text = false
fits test.IsNotNull text = false
