-- Bounds and probes over three items, worked by hand from the table of docs/SELECT.md.
use Rattle.std.specs.Prelude.{ℕ, Bool, ◌&&◌, List, [], ◌∷◌, codes, nat_eq, if◌then◌else◌}
use Rattle.std.specs.Str.{bytes_eq}
use Rattle.sdb_parse.specs.declared.expr.Expr.{Expr}
use Rattle.sdb_parse.specs.declared.expr.Expr.TheVariants.{Pred, Not, And, Or, Inter}
use Rattle.sdb_parse.specs.declared.expr.Operand.TheVariants.{Attr, Every, ItemName}
use Rattle.sdb_parse.specs.declared.test.Test.{Test}
use Rattle.sdb_parse.specs.declared.test.Test.TheVariants.{Eq, Ne, Le, Gt, Like, NotLike, Between, OneOf, IsNull, IsNotNull}
use Rattle.sdb_parse.specs.Meaning.{Values, bound, counted, distinct, probes}

-- the values of an item that has keywords and pages
abbrev pub book : (keywords pages : List (List ℕ)) → Values
book keywords pages attr =
    if bytes_eq attr (codes "keyword") then keywords else (if bytes_eq attr (codes "pages") then pages else [])

-- i1 has keyword = Book and Hardcover, and pages = 100; i2 has keyword = Book; i3 has the empty keyword, and pages = 100
-- and 200
abbrev pub books : List (List ℕ × Values)
books = (codes "i1", book (codes "Book" ∷ codes "Hardcover" ∷ []) (codes "100" ∷ []))
    ∷ (codes "i2", book (codes "Book" ∷ []) [])
    ∷ (codes "i3", book ([] ∷ []) (codes "100" ∷ codes "200" ∷ []))
    ∷ []

-- the condition has that bound and that many probes over these items
abbrev pub has : Expr × ℕ × ℕ → Bool
has row = nat_eq (bound row.0 (counted books)) row.1 && nat_eq (probes (distinct books) row.0) row.2

-- a test of keyword
abbrev pub keyword : Test → Expr
keyword t = Pred (Attr (codes "keyword")) t

-- a test of pages
abbrev pub pages : Test → Expr
pages t = Pred (Attr (codes "pages")) t

-- tests of attributes
abbrev pub attribute_rows : List (Expr × ℕ × ℕ)
attribute_rows = (keyword (Eq (codes "Book")), 2, 1)
    ∷ (keyword (Ne (codes "Book")), 2, 4)
    ∷ (keyword (Gt (codes "B")), 2, 4)
    ∷ (keyword (Le (codes "Book")), 3, 4)
    ∷ (pages (Between (codes "100") (codes "150")), 2, 3)
    ∷ (keyword (Like (codes "H%d%")), 1, 3)
    ∷ (keyword (NotLike (codes "H%")), 3, 4)
    ∷ (pages (OneOf (codes "200" ∷ codes "300" ∷ [])), 1, 2)
    ∷ (pages IsNotNull, 2, 3)
    ∷ (pages IsNull, 3, 0)
    ∷ (Pred (Every (codes "pages")) (Eq (codes "200")), 1, 1)
    ∷ []

-- tests of names, and what isn't so
abbrev pub other_rows : List (Expr × ℕ × ℕ)
other_rows = (Pred ItemName (Eq (codes "i1")), 1, 0)
    ∷ (Pred ItemName (OneOf (codes "i2" ∷ codes "i3" ∷ codes "i4" ∷ [])), 2, 0)
    ∷ (Pred ItemName (Gt (codes "i1")), 3, 0)
    ∷ (Pred ItemName IsNull, 3, 0)
    ∷ (Not (keyword (Eq (codes "Book"))), 3, 0)
    ∷ []

-- conditions of two members
abbrev pub member_rows : List (Expr × ℕ × ℕ)
member_rows = (And (keyword (Eq (codes "Book")) ∷ keyword (Eq (codes "Hardcover")) ∷ []), 0, 2)
    ∷ (And (keyword (Eq (codes "Book")) ∷ pages (Gt (codes "100")) ∷ []), 1, 4)
    ∷ (Inter (keyword (Eq (codes "Book")) ∷ keyword (Eq (codes "Hardcover")) ∷ []), 1, 2)
    ∷ (Or (keyword (Eq (codes "Book")) ∷ keyword (Eq (codes "Hardcover")) ∷ []), 2, 2)
    ∷ (Or (keyword (Eq (codes "Hardcover")) ∷ pages (Eq (codes "200")) ∷ []), 2, 2)
    ∷ (Or (keyword (Eq (codes "Book")) ∷ pages (Eq (codes "100")) ∷ []), 3, 2)
    ∷ []
