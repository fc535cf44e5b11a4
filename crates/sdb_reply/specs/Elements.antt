-- Elements (Extensible Markup Language 1.0, section 3.1).
use Rattle.std.specs.Prelude.{List, ℕ, [], ◌∷◌, ◌++◌}
use Rattle.sdb_reply.specs.Escape.{content}

-- `<name>`
abbrev pub start_tag : List ℕ → List ℕ
start_tag name = 60 ∷ (name ++ 62 ∷ [])

-- `</name>`
abbrev pub end_tag : List ℕ → List ℕ
end_tag name = 60 ∷ 47 ∷ (name ++ 62 ∷ [])

-- an element that holds elements
abbrev pub group : (name inside : List ℕ) → List ℕ
group name inside = start_tag name ++ inside ++ end_tag name

-- an element that holds a text, which is written as its content is
abbrev pub element : (name text : List ℕ) → List ℕ
element name text = 60 ∷ (name ++ content text ++ end_tag name)
