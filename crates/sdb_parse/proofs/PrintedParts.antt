-- The printed form of names, texts, operands and tests spells them.
use Rattle.std.proofs.Common.{◌≡◌, ℕ, ◌<◌, ◌≤◌, Bool, true, false, ◌&&◌, ◌==◌, List, [], ◌∷◌, ◌++◌, length, codes, Option, Some, None, nat_lt, nat_le, refl, sym, ap, subst, ◌∙◌, arith, append_assoc}
use Rattle.std.specs.List.{flat_map, join_by}
use Rattle.std.proofs.lemmas.Bool.{false≢true}
use Rattle.std.proofs.lemmas.Bool.Decides.{nat_tests}
use Rattle.sdb_base.specs.Names.{is_name}
use Rattle.sdb_lex.specs.Bytes.{begins}
use Rattle.sdb_lex.specs.declared.token.Kind.TheVariants as kind
use Rattle.sdb_lex.specs.Tokens.{doubled, IsToken, quoted as quoted_token, ticked}
use Rattle.sdb_parse.specs.declared.expr.Operand.{Operand}
use Rattle.sdb_parse.specs.declared.expr.Operand.TheVariants as operand
use Rattle.sdb_parse.specs.declared.sign.Sign.{Sign}
use Rattle.sdb_parse.specs.declared.sign.Sign.TheVariants as sign
use Rattle.sdb_parse.specs.declared.term.Term.{Term}
use Rattle.sdb_parse.specs.declared.test.Test.{Test}
use Rattle.sdb_parse.specs.declared.test.Test.TheVariants as test
use Rattle.sdb_parse.specs.Conditions.{compared}
use Rattle.sdb_parse.specs.Grammar.{IsName, named, IsAttr, attr, IsQuoted, quoted, IsItemName, item_name, Further, no_further, one_further, Listing, listing, IsTest, compares, likes, not_likes, within, one_of, null, not_null, IsOperand, some_value, every_value, its_name}
use Rattle.sdb_parse.specs.Printed.{enclosed, name_text, operand_text, quoted_text, test_text}
use Rattle.sdb_parse.specs.Signs.{sign_of, words}
use Rattle.sdb_parse.specs.Terms.{plain_term, term_for}
use Rattle.sdb_parse.proofs.SoundLemmas.{not_none, on_some}
use Rattle.sdb_parse.proofs.LexedLemmas.{Lexed, after_space, after_token, Spaced, space, stops, Written, Writes, Then, both, written_both, writes_both, writes_as, Begun, begun, plain_sign, lexed_word, lexed_sign, word_written, sign_written, order_written, equals_written, inside_enclosed}

-- ---- names and texts

-- a name in backticks before other tokens
pub lexed_name : (name rest : List ℕ) (us : List Term) → 0 < length name → begins (λ c. c == 96) rest ≡ false → Lexed rest us → Lexed (enclosed 96 name ++ rest) (term_for kind.Ticked (enclosed 96 name) ∷ us)
lexed_name [] rest us some ends lexed = absurd (omega arith)
lexed_name (b ∷ bs) rest us some ends lexed = after_token kind.Ticked (enclosed 96 (b ∷ bs)) rest us (ticked b bs rest ends) lexed

a_name : (name : List ℕ) (us : List Term) → IsName (term_for kind.Ticked (enclosed 96 name) ∷ us) name us
a_name name us = subst (λ n. IsName (term_for kind.Ticked (enclosed 96 name) ∷ us) n us) (inside_enclosed 96 name) (named (term_for kind.Ticked (enclosed 96 name)) us refl refl)

pub name_written : (name : List ℕ) → 0 < length name → Writes (name_text name) (λ ts us. IsName ts name us)
name_written name some rest us spaced lexed = record {
  terms = term_for kind.Ticked (enclosed 96 name) ∷ us;
  lexed = after_space (enclosed 96 name ++ rest) (term_for kind.Ticked (enclosed 96 name) ∷ us) (lexed_name name rest us some (stops (λ c. c == 96) refl rest spaced) lexed);
  spaced = space (enclosed 96 name ++ rest);
  is = a_name name us;
}

is_some : (a b : Bool) (n : ℕ) → a ≡ nat_le 1 n → (a && b) ≡ true → 0 < n
is_some true b n e h = grind (arith, nat_tests)
is_some false b n e h = absurd (false≢true h)

some_bytes : (name : List ℕ) → is_name name ≡ true → 0 < length name
some_bytes name h = grind (arith, nat_tests)

pub attr_written : (name : List ℕ) → is_name name ≡ true → Writes (name_text name) (λ ts us. IsAttr ts name us)
attr_written name h = writes_as (λ ts us. IsName ts name us) (λ ts us. IsAttr ts name us) (name_text name) (λ ts us is. attr ts name us is h) (name_written name (some_bytes name h))

pub attr_is_name : (ts : List Term) (name : List ℕ) (us : List Term) → IsAttr ts name us → is_name name ≡ true
attr_is_name _ _ _ (attr ts name us is h) = h

pub quoted_written : (text : List ℕ) → Writes (quoted_text text) (λ ts us. IsQuoted ts text us)
quoted_written text rest us spaced lexed = record {
  terms = term_for kind.Quoted (enclosed 39 text) ∷ us;
  lexed = after_space (enclosed 39 text ++ rest) (term_for kind.Quoted (enclosed 39 text) ∷ us)
      (after_token kind.Quoted (enclosed 39 text) rest us (quoted_token 39 text rest refl (stops (λ c. c == 39) refl rest spaced)) lexed);
  spaced = space (enclosed 39 text ++ rest);
  is = subst (λ n. IsQuoted (term_for kind.Quoted (enclosed 39 text) ∷ us) n us) (inside_enclosed 39 text) (quoted (term_for kind.Quoted (enclosed 39 text)) us refl);
}

-- ---- words and symbols

pub and_written : Writes (codes " and") (Begun sign.And)
unfolding sign_of words
and_written = word_written (codes "and") sign.And refl refl

pub not_written : Writes (codes " not") (Begun sign.Not)
unfolding sign_of words
not_written = word_written (codes "not") sign.Not refl refl

like_written : Writes (codes " like") (Begun sign.Like)
unfolding sign_of words
like_written = word_written (codes "like") sign.Like refl refl

between_written : Writes (codes " between") (Begun sign.Between)
unfolding sign_of words
between_written = word_written (codes "between") sign.Between refl refl

in_written : Writes (codes " in") (Begun sign.In)
unfolding sign_of words
in_written = word_written (codes "in") sign.In refl refl

is_written : Writes (codes " is") (Begun sign.Is)
unfolding sign_of words
is_written = word_written (codes "is") sign.Is refl refl

null_written : Writes (codes " null") (Begun sign.Null)
unfolding sign_of words
null_written = word_written (codes "null") sign.Null refl refl

pub open_written : Writes (codes " (") (Begun sign.Open)
unfolding sign_of words
open_written = sign_written 40 sign.Open refl refl

pub close_written : Writes (codes " )") (Begun sign.Close)
unfolding sign_of words
close_written = sign_written 41 sign.Close refl refl

pub comma_written : Writes (codes " ,") (Begun sign.Comma)
unfolding sign_of words
comma_written = sign_written 44 sign.Comma refl refl

pub star_written : Writes (codes " *") (Begun sign.Star)
unfolding sign_of words
star_written = sign_written 42 sign.Star refl refl

equal_written : Writes (codes " =") (Begun sign.Equal)
unfolding sign_of words
equal_written = sign_written 61 sign.Equal refl refl

less_written : Writes (codes " <") (Begun sign.Less)
unfolding sign_of words
less_written = order_written 60 sign.Less refl refl

greater_written : Writes (codes " >") (Begun sign.Greater)
unfolding sign_of words
greater_written = order_written 62 sign.Greater refl refl

unequal_written : Writes (codes " !=") (Begun sign.Unequal)
unfolding sign_of words
unequal_written = equals_written 33 sign.Unequal refl refl

at_most_written : Writes (codes " <=") (Begun sign.LessEqual)
unfolding sign_of words
at_most_written = equals_written 60 sign.LessEqual refl refl

at_least_written : Writes (codes " >=") (Begun sign.GreaterEqual)
unfolding sign_of words
at_least_written = equals_written 62 sign.GreaterEqual refl refl

-- ---- operands

pub item_name_written : Writes (codes " itemName()") (λ ts us. IsItemName ts us)
unfolding sign_of words
item_name_written rest us spaced lexed = record {
  terms = plain_term (codes "itemName") ∷ plain_term (codes "(") ∷ plain_term (codes ")") ∷ us;
  lexed = after_space (codes "itemName()" ++ rest) (plain_term (codes "itemName") ∷ plain_term (codes "(") ∷ plain_term (codes ")") ∷ us)
      (lexed_word (codes "itemName") (codes "()" ++ rest) (plain_term (codes "(") ∷ plain_term (codes ")") ∷ us) refl refl
      (lexed_sign 40 (codes ")" ++ rest) (plain_term (codes ")") ∷ us) refl (lexed_sign 41 rest us refl lexed)));
  spaced = space (codes "itemName()" ++ rest);
  is = item_name (plain_term (codes "itemName")) (plain_term (codes "(")) (plain_term (codes ")")) us
      (plain_sign (codes "itemName") sign.ItemName refl) (plain_sign (codes "(") sign.Open refl) (plain_sign (codes ")") sign.Close refl);
}

every_lexed : (name rest : List ℕ) (us : List Term) → 0 < length name → Lexed rest us →
    Lexed (codes " every(" ++ (enclosed 96 name ++ codes ")") ++ rest) (plain_term (codes "every") ∷ plain_term (codes "(") ∷ term_for kind.Ticked (enclosed 96 name) ∷ plain_term (codes ")") ∷ us)
every_lexed name rest us some lexed =
    let closed = plain_term (codes ")") ∷ us in
    let named = term_for kind.Ticked (enclosed 96 name) ∷ closed in
    let opened = plain_term (codes "(") ∷ named in
    let inner : List ℕ = (enclosed 96 name ++ codes ")") ++ rest in
    after_space (codes "every(" ++ inner) (plain_term (codes "every") ∷ opened)
    (lexed_word (codes "every") (codes "(" ++ inner) opened refl refl
    (lexed_sign 40 inner named refl
    (subst (λ l. Lexed l named) (sym (append_assoc (enclosed 96 name) (codes ")") rest)) (lexed_name name (codes ")" ++ rest) closed some refl (lexed_sign 41 rest us refl lexed)))))

pub every_written : (attr : List ℕ) → is_name attr ≡ true → Writes (operand_text (operand.Every attr)) (λ ts us. IsOperand ts (operand.Every attr) us)
unfolding sign_of words
every_written name h rest us spaced lexed = record {
  terms = plain_term (codes "every") ∷ plain_term (codes "(") ∷ term_for kind.Ticked (enclosed 96 name) ∷ plain_term (codes ")") ∷ us;
  lexed = every_lexed name rest us (some_bytes name h) lexed;
  spaced = space (codes "every(" ++ (enclosed 96 name ++ codes ")") ++ rest);
  is = every_value (plain_term (codes "every")) (plain_term (codes "(")) (plain_term (codes ")")) (term_for kind.Ticked (enclosed 96 name) ∷ plain_term (codes ")") ∷ us) us name
      (plain_sign (codes "every") sign.Every refl) (plain_sign (codes "(") sign.Open refl)
      (attr (term_for kind.Ticked (enclosed 96 name) ∷ plain_term (codes ")") ∷ us) name (plain_term (codes ")") ∷ us) (a_name name (plain_term (codes ")") ∷ us)) h)
      (plain_sign (codes ")") sign.Close refl);
}

pub operand_written : (ts : List Term) (o : Operand) (mid : List Term) → IsOperand ts o mid → Writes (operand_text o) (λ vs us. IsOperand vs o us)
operand_written _ _ _ (some_value ts name mid is) =
    writes_as (λ vs us. IsAttr vs name us) (λ vs us. IsOperand vs (operand.Attr name) us) (name_text name) (λ vs us a. some_value vs name us a) (attr_written name (attr_is_name ts name mid is))
operand_written _ _ _ (every_value e o c ts mid name is_e is_o is is_c) = every_written name (attr_is_name ts name (c ∷ mid) is)
operand_written _ _ _ (its_name ts mid is) =
    writes_as (λ vs us. IsItemName vs us) (λ vs us. IsOperand vs operand.ItemName us) (codes " itemName()") (λ vs us a. its_name vs us a) item_name_written

-- ---- lists

module _ (one_text : List ℕ → List ℕ) (Item : List Term → List ℕ → List Term → Type 0)
    (item_written : (ts : List Term) (one : List ℕ) (us : List Term) → Item ts one us → Writes (one_text one) (λ vs ws. Item vs one ws)) where
  with_comma : (one : List ℕ) (others : List (List ℕ)) (ts us : List Term) →
      Then (Then (Begun sign.Comma) (λ vs ws. Item vs one ws)) (λ vs ws. Further sign.Comma Item vs others ws) ts us → Further sign.Comma Item ts (one ∷ others) us
  with_comma one others _ _ (both _ mid us (both _ ts _ (begun t _ is_t) is) more) = one_further t ts one mid others us is_t is more

  no_others : Writes [] (λ vs ws. Further sign.Comma Item vs [] ws)
  no_others rest us spaced lexed = record { terms = us; lexed = lexed; spaced = spaced; is = no_further us }

  others_written : (ts : List Term) (others : List (List ℕ)) (us : List Term) → Further sign.Comma Item ts others us →
      Writes (flat_map (λ one. codes " ," ++ one_text one) others) (λ vs ws. Further sign.Comma Item vs others ws)
  others_written _ _ _ (no_further us) = no_others
  others_written _ _ _ (one_further t ts one mid others us is_t is more) =
      writes_as (Then (Then (Begun sign.Comma) (λ vs ws. Item vs one ws)) (λ vs ws. Further sign.Comma Item vs others ws)) (λ vs ws. Further sign.Comma Item vs (one ∷ others) ws)
      ((codes " ," ++ one_text one) ++ flat_map (λ o. codes " ," ++ one_text o) others) (with_comma one others)
      (writes_both (Then (Begun sign.Comma) (λ vs ws. Item vs one ws)) (λ vs ws. Further sign.Comma Item vs others ws) (codes " ," ++ one_text one) (flat_map (λ o. codes " ," ++ one_text o) others)
      (writes_both (Begun sign.Comma) (λ vs ws. Item vs one ws) (codes " ,") (one_text one) comma_written (item_written ts one mid is)) (others_written mid others us more))

  listed_is : (one : List ℕ) (others : List (List ℕ)) (ts us : List Term) → Then (λ vs ws. Item vs one ws) (λ vs ws. Further sign.Comma Item vs others ws) ts us → Listing sign.Comma Item ts (one ∷ others) us
  listed_is one others _ _ (both ts mid us is more) = listing ts one mid others us is more

  pub listed_written : (ts : List Term) (all : List (List ℕ)) (us : List Term) → Listing sign.Comma Item ts all us → Writes (join_by one_text (codes " ,") all) (λ vs ws. Listing sign.Comma Item vs all ws)
  listed_written _ _ _ (listing ts one mid others us is more) =
      writes_as (Then (λ vs ws. Item vs one ws) (λ vs ws. Further sign.Comma Item vs others ws)) (λ vs ws. Listing sign.Comma Item vs (one ∷ others) ws)
      (one_text one ++ flat_map (λ o. codes " ," ++ one_text o) others) (listed_is one others)
      (writes_both (λ vs ws. Item vs one ws) (λ vs ws. Further sign.Comma Item vs others ws) (one_text one) (flat_map (λ o. codes " ," ++ one_text o) others)
      (item_written ts one mid is) (others_written mid others us more))

pub attrs_written : (ts : List Term) (names : List (List ℕ)) (us : List Term) → Listing sign.Comma IsAttr ts names us → Writes (join_by name_text (codes " ,") names) (λ vs ws. Listing sign.Comma IsAttr vs names ws)
attrs_written = listed_written name_text IsAttr (λ ts one us is. attr_written one (attr_is_name ts one us is))

pub texts_written : (ts : List Term) (texts : List (List ℕ)) (us : List Term) → Listing sign.Comma IsQuoted ts texts us → Writes (join_by quoted_text (codes " ,") texts) (λ vs ws. Listing sign.Comma IsQuoted vs texts ws)
texts_written = listed_written quoted_text IsQuoted (λ ts one us is. quoted_written one)

-- ---- tests

abbrev Text_after : Sign → List ℕ → List Term → List Term → Type 0
Text_after s text = Then (Begun s) (λ ts us. IsQuoted ts text us)

text_after : (piece : List ℕ) (s : Sign) (text : List ℕ) → Writes piece (Begun s) → Writes (piece ++ quoted_text text) (Text_after s text)
text_after piece s text w = writes_both (Begun s) (λ ts us. IsQuoted ts text us) piece (quoted_text text) w (quoted_written text)

is_comparison : (s : Sign) (text : List ℕ) (asked : Test) → compared s text ≡ Some asked → (ts us : List Term) → Text_after s text ts us → IsTest ts asked us
is_comparison s _ asked h _ _ (both _ _ us (begun t _ is_t) (quoted q _ is_q)) = compares t q us asked (ap (λ r. compared r q.text) is_t ∙ h) is_q

comparison_written : (piece : List ℕ) (s : Sign) (text : List ℕ) (asked : Test) → Writes piece (Begun s) → compared s text ≡ Some asked → Writes (piece ++ quoted_text text) (λ ts us. IsTest ts asked us)
comparison_written piece s text asked w h = writes_as (Text_after s text) (λ ts us. IsTest ts asked us) (piece ++ quoted_text text) (is_comparison s text asked h) (text_after piece s text w)

like_is : (text : List ℕ) (ts us : List Term) → Text_after sign.Like text ts us → IsTest ts (test.Like text) us
like_is _ _ _ (both _ _ us (begun w _ is_w) (quoted q _ is_q)) = likes w q us is_w is_q

not_like_is : (text : List ℕ) (ts us : List Term) → Then (Begun sign.Not) (Text_after sign.Like text) ts us → IsTest ts (test.NotLike text) us
not_like_is _ _ _ (both _ _ us (begun n _ is_n) (both _ _ _ (begun w _ is_w) (quoted q _ is_q))) = not_likes n w q us is_n is_w is_q

between_is : (low high : List ℕ) (ts us : List Term) → Then (Text_after sign.Between low) (Text_after sign.And high) ts us → IsTest ts (test.Between low high) us
between_is _ _ _ _ (both _ _ us (both _ _ _ (begun w _ is_w) (quoted l _ is_l)) (both _ _ _ (begun a _ is_a) (quoted h _ is_h))) = within w l a h us is_w is_l is_a is_h

one_of_is : (texts : List (List ℕ)) (ts us : List Term) → Then (Then (Begun sign.In) (Begun sign.Open)) (Then (λ vs ws. Listing sign.Comma IsQuoted vs texts ws) (Begun sign.Close)) ts us → IsTest ts (test.OneOf texts) us
one_of_is texts _ _ (both _ _ us (both _ _ _ (begun w _ is_w) (begun o _ is_o)) (both ts _ _ is (begun c _ is_c))) = one_of w o c ts us texts is_w is_o is is_c

null_is : (ts us : List Term) → Then (Begun sign.Is) (Begun sign.Null) ts us → IsTest ts test.IsNull us
null_is _ _ (both _ _ us (begun i _ is_i) (begun n _ is_n)) = null i n us is_i is_n

not_null_is : (ts us : List Term) → Then (Begun sign.Is) (Then (Begun sign.Not) (Begun sign.Null)) ts us → IsTest ts test.IsNotNull us
not_null_is _ _ (both _ _ us (begun i _ is_i) (both _ _ _ (begun m _ is_m) (begun n _ is_n))) = not_null i m n us is_i is_m is_n

-- the texts of each kind of test
pub compared_written : (s : Sign) (text : List ℕ) (asked : Test) → compared s text ≡ Some asked → Writes (test_text asked) (λ ts us. IsTest ts asked us)
unfolding compared
compared_written sign.Equal text asked h =
    subst (λ t. Writes (test_text t) (λ ts us. IsTest ts t us)) (on_some (test.Eq text) asked h) (comparison_written (codes " =") sign.Equal text (test.Eq text) equal_written refl)
compared_written sign.Unequal text asked h =
    subst (λ t. Writes (test_text t) (λ ts us. IsTest ts t us)) (on_some (test.Ne text) asked h) (comparison_written (codes " !=") sign.Unequal text (test.Ne text) unequal_written refl)
compared_written sign.Less text asked h =
    subst (λ t. Writes (test_text t) (λ ts us. IsTest ts t us)) (on_some (test.Lt text) asked h) (comparison_written (codes " <") sign.Less text (test.Lt text) less_written refl)
compared_written sign.LessEqual text asked h =
    subst (λ t. Writes (test_text t) (λ ts us. IsTest ts t us)) (on_some (test.Le text) asked h) (comparison_written (codes " <=") sign.LessEqual text (test.Le text) at_most_written refl)
compared_written sign.Greater text asked h =
    subst (λ t. Writes (test_text t) (λ ts us. IsTest ts t us)) (on_some (test.Gt text) asked h) (comparison_written (codes " >") sign.Greater text (test.Gt text) greater_written refl)
compared_written sign.GreaterEqual text asked h =
    subst (λ t. Writes (test_text t) (λ ts us. IsTest ts t us)) (on_some (test.Ge text) asked h) (comparison_written (codes " >=") sign.GreaterEqual text (test.Ge text) at_least_written refl)
compared_written _ text asked h = absurd (not_none asked h)

pub test_written : (ts : List Term) (t : Test) (mid : List Term) → IsTest ts t mid → Writes (test_text t) (λ vs us. IsTest vs t us)
test_written _ t _ (compares w q mid asked h is_q) = compared_written w.sign q.text t h
test_written _ _ _ (likes w q mid is_w is_q) =
    writes_as (Text_after sign.Like q.text) (λ vs us. IsTest vs (test.Like q.text) us) (codes " like" ++ quoted_text q.text) (like_is q.text) (text_after (codes " like") sign.Like q.text like_written)
test_written _ _ _ (not_likes n w q mid is_n is_w is_q) =
    writes_as (Then (Begun sign.Not) (Text_after sign.Like q.text)) (λ vs us. IsTest vs (test.NotLike q.text) us) (codes " not" ++ (codes " like" ++ quoted_text q.text)) (not_like_is q.text)
    (writes_both (Begun sign.Not) (Text_after sign.Like q.text) (codes " not") (codes " like" ++ quoted_text q.text) not_written (text_after (codes " like") sign.Like q.text like_written))
test_written _ _ _ (within w l a h mid is_w is_l is_a is_h) =
    writes_as (Then (Text_after sign.Between l.text) (Text_after sign.And h.text)) (λ vs us. IsTest vs (test.Between l.text h.text) us)
    ((codes " between" ++ quoted_text l.text) ++ (codes " and" ++ quoted_text h.text)) (between_is l.text h.text)
    (writes_both (Text_after sign.Between l.text) (Text_after sign.And h.text) (codes " between" ++ quoted_text l.text) (codes " and" ++ quoted_text h.text)
    (text_after (codes " between") sign.Between l.text between_written) (text_after (codes " and") sign.And h.text and_written))
test_written _ _ _ (one_of w o c ts mid texts is_w is_o is is_c) =
    writes_as (Then (Then (Begun sign.In) (Begun sign.Open)) (Then (λ vs ws. Listing sign.Comma IsQuoted vs texts ws) (Begun sign.Close))) (λ vs us. IsTest vs (test.OneOf texts) us)
    (codes " in (" ++ (join_by quoted_text (codes " ,") texts ++ codes " )")) (one_of_is texts)
    (writes_both (Then (Begun sign.In) (Begun sign.Open)) (Then (λ vs ws. Listing sign.Comma IsQuoted vs texts ws) (Begun sign.Close)) (codes " in (") (join_by quoted_text (codes " ,") texts ++ codes " )")
    (writes_both (Begun sign.In) (Begun sign.Open) (codes " in") (codes " (") in_written open_written)
    (writes_both (λ vs ws. Listing sign.Comma IsQuoted vs texts ws) (Begun sign.Close) (join_by quoted_text (codes " ,") texts) (codes " )") (texts_written ts texts (c ∷ mid) is) close_written))
test_written _ _ _ (null i n mid is_i is_n) =
    writes_as (Then (Begun sign.Is) (Begun sign.Null)) (λ vs us. IsTest vs test.IsNull us) (codes " is null") null_is (writes_both (Begun sign.Is) (Begun sign.Null) (codes " is") (codes " null") is_written null_written)
test_written _ _ _ (not_null i m n mid is_i is_m is_n) =
    writes_as (Then (Begun sign.Is) (Then (Begun sign.Not) (Begun sign.Null))) (λ vs us. IsTest vs test.IsNotNull us) (codes " is not null") not_null_is
    (writes_both (Begun sign.Is) (Then (Begun sign.Not) (Begun sign.Null)) (codes " is") (codes " not null") is_written
    (writes_both (Begun sign.Not) (Begun sign.Null) (codes " not") (codes " null") not_written null_written))
