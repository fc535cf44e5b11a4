-- Texts that are appended between words.
use Rattle.std.proofs.Common.{◌≡◌, ℕ, ◌/◌, ◌^◌, List, [], ◌∷◌, ◌++◌, codes, decimal, ◌∙◌, ap, append_assoc, append-nil}
use Rattle.sdb_tables.specs.declared.refusal.Refusal.{Refusal}
use Rattle.sdb_tables.specs.Faults.{fault_of}
use Rattle.sdb_reply.specs.declared.outcome.RequestId.{RequestId}
use Rattle.sdb_pairs.specs.declared.pair.Pair.{Pair}
use Rattle.sdb_reply.specs.Digits.{padded}
use Rattle.sdb_reply.specs.Escape.{content}
use Rattle.sdb_reply.specs.Results.{attribute, attribute_name, counted, counting_attribute, counting_item, item_name, name_name, value_name}
use Rattle.sdb_reply.specs.Bodies.{refused, before_code, before_message, after_message, before_refused_id, between, after_refused_id}

pub framed : (old one two three a b c : List ℕ) → one ≡ old ++ a → two ≡ one ++ b → three ≡ two ++ c → three ≡ old ++ (a ++ (b ++ c))
framed old one two three a b c first second third =
    third ∙ ap (λ l. l ++ c) (second ∙ ap (λ l. l ++ b) first) ∙ append_assoc (old ++ a) b c ∙ append_assoc old a (b ++ c)

pub framed_twice : (old one two three four five a b c d e : List ℕ) → one ≡ old ++ a → two ≡ one ++ b → three ≡ two ++ c → four ≡ three ++ d → five ≡ four ++ e
    → five ≡ old ++ (a ++ (b ++ (c ++ (d ++ e))))
framed_twice old one two three four five a b c d e first second third fourth fifth =
    framed two three four five c d e third fourth fifth ∙ ap (λ l. l ++ (c ++ (d ++ e))) (second ∙ ap (λ l. l ++ b) first)
    ∙ append_assoc (old ++ a) b (c ++ (d ++ e)) ∙ append_assoc old a (b ++ (c ++ (d ++ e)))

around_pair : (n e w v f g : List ℕ) → n ++ ((e ++ w) ++ (v ++ (f ++ g))) ≡ ((n ++ e) ++ (w ++ (v ++ f))) ++ g
around_pair n e w v f g = simp append_assoc

around_count : (i e w c u d f g h : List ℕ) → (i ++ ((e ++ w) ++ (c ++ (e ++ u)))) ++ (d ++ ((f ++ g) ++ h)) ≡ ((i ++ e) ++ (w ++ (((c ++ e) ++ (u ++ (d ++ f))) ++ g))) ++ h
around_count i e w c u d f g h = simp append_assoc

-- a pair between the words of its element
pub attribute-written : (out one two three four five : List ℕ) (pair : Pair) → one ≡ out ++ codes "<Attribute><Name" → two ≡ one ++ content pair.name → three ≡ two ++ codes "</Name><Value"
    → four ≡ three ++ content pair.value → five ≡ four ++ codes "</Value></Attribute>" → five ≡ out ++ attribute pair
unfolding attribute_name name_name value_name
attribute-written out one two three four five pair first second third fourth fifth =
    framed_twice out one two three four five (codes "<Attribute><Name") (content pair.name) (codes "</Name><Value") (content pair.value) (codes "</Value></Attribute>") first second third fourth fifth
    ∙ ap (λ l. out ++ (codes "<Attribute><Name" ++ l)) (around_pair (content pair.name) (codes "</Name>") (codes "<Value") (content pair.value) (codes "</Value>") (codes "</Attribute>"))

-- the item of a count
pub counted-written : (out one two three four five six seven : List ℕ) (number : ℕ) → one ≡ out ++ codes "<Item><Name" → two ≡ one ++ content counting_item → three ≡ two ++ codes "</Name><Attribute><Name"
    → four ≡ three ++ content counting_attribute → five ≡ four ++ codes "</Name><Value" → six ≡ five ++ content (decimal number) → seven ≡ six ++ codes "</Value></Attribute></Item>" → seven ≡ out ++ counted number
unfolding item_name attribute_name name_name value_name
counted-written out one two three four five six seven number first second third fourth fifth sixth seventh =
    let before = codes "<Item><Name" in
    let between_names = codes "</Name><Attribute><Name" in
    let before_value = codes "</Name><Value" in
    let front = framed_twice out one two three four five before (content counting_item) between_names (content counting_attribute) before_value first second third fourth fifth in
    framed out five six seven (before ++ (content counting_item ++ (between_names ++ (content counting_attribute ++ before_value)))) (content (decimal number)) (codes "</Value></Attribute></Item>") front sixth seventh
    ∙ ap (λ l. out ++ (before ++ l)) (around_count (content counting_item) (codes "</Name>") (codes "<Attribute><Name") (content counting_attribute) (codes "<Value") (content (decimal number)) (codes "</Value>") (codes "</Attribute>") (codes "</Item>"))

-- the pieces of a refusal's body
pub refused-pieces : (r : Refusal) (id : RequestId) (units : ℕ) (a b c d e f g h i j k l : List ℕ)
    → a ≡ before_code → b ≡ (fault_of r).code → c ≡ before_message → d ≡ (fault_of r).message → e ≡ after_message → f ≡ decimal (units / 10 ^ 10)
    → g ≡ padded 10 10 units → h ≡ before_refused_id → i ≡ padded 16 8 id.conn → j ≡ between → k ≡ padded 16 12 id.number → l ≡ after_refused_id
    → a ++ (b ++ (c ++ (d ++ (e ++ (f ++ (46 ∷ (g ++ (h ++ (i ++ (j ++ (k ++ (l ++ [])))))))))))) ≡ refused r id units
refused-pieces r id units a b c d e f g h i j k l ea eb ec ed ee ef eg eh ei ej ek el =
    rw (ea, eb, ec, ed, ee, ef, eg, eh, ei, ej, ek, el) (simp (append_assoc, append-nil))
