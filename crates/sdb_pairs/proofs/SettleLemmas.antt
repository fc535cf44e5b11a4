-- Changes applied once more leave a place as they left it before.
use Rattle.std.proofs.Common.{◌≡◌, ℕ, Bool, true, false, cond, not, ◌&&◌, ◌||◌, List, [], ◌∷◌, ◌++◌, Option, Some, None, refl, sym, ap, ◌∙◌, ◌⊎◌, inl, inr, ⊎_elim, is_some, unwrap_or, fold, filter}
use Rattle.std.specs.BTreeMap.{is_at}
use Rattle.std.specs.Ordering.{eq_by_cmp}
use Rattle.std.specs.List.Sorted.{IsStrictlySortedBy}
use Rattle.std.proofs.lemmas.Cmp.{eq_by_cmp_equiv}
use Rattle.std.proofs.lemmas.Grind.{fold-append}
use Rattle.std.proofs.lemmas.Map.Made.{is_member-filter}
use Rattle.sdb_base.specs.Texts.{text_cmp}
use Rattle.sdb_pairs.specs.declared.pair.Pair.{Pair}
use Rattle.sdb_pairs.specs.declared.op.Op.{Op}
use Rattle.sdb_pairs.specs.declared.op.Op.TheVariants.{AddPair, DropPair, DropName, DropAll}
use Rattle.sdb_pairs.specs.declared.change.Change.{Change}
use Rattle.sdb_pairs.specs.declared.change.Change.TheVariants.{MakeDomain, DropDomain, Edit}
use Rattle.sdb_pairs.specs.Accounts.{DomainEntries, domain_cmp, items_of, has_domain, pairs_at, pairs_of, AreAccounts}
use Rattle.sdb_pairs.specs.Changes.{edited, items_or_none, after_change, state}
use Rattle.sdb_pairs.specs.Laws.{Place, domain_at, item_at, AgreesAt}
use Rattle.sdb_pairs.specs.Pairs.{pair_cmp, pair_eq, is_named, after_op, merged}
use Rattle.sdb_base.proofs.Cases.{by_bool}
use Rattle.sdb_base.proofs.KeyLemmas.{has, has-insert_key, same_members}
use Rattle.sdb_base.proofs.EntryLemmas.{found-placed, key_at}
use Rattle.sdb_pairs.proofs.PairLemmas.{pair_total, pair_exact, rising_after_op, rising_merged, rising_none}
use Rattle.sdb_pairs.proofs.StateLemmas.{domain_total, domain_exact, pairs_at-edited, pairs_at-rise, are_items, are_accounts_after}
use Rattle.std.proofs.lemmas.Map.Lookups.{exact_bytes}

-- ---- tests that an edit leaves alone or settles

-- the function gives its argument back, or always the same
abbrev IsSteady : (Bool → Bool) → Type 0
IsSteady f = ((b : Bool) → f b ≡ b) ⊎ ((fixed : Bool) × ((b : Bool) → f b ≡ fixed))

steady_twice : (f : Bool → Bool) → IsSteady f → (b : Bool) → f (f b) ≡ f b
steady_twice f h b = ⊎_elim (λ same. same (f b)) (λ c. c.1 (f b) ∙ sym (c.1 b)) h

steady_then : (f g : Bool → Bool) → IsSteady f → IsSteady g → IsSteady (λ b. g (f b))
steady_then f g h k =
    ⊎_elim
    (λ same. ⊎_elim (λ first. inl (λ b. same (f b) ∙ first b)) (λ c. inr (c.0, λ b. same (f b) ∙ c.1 b)) h)
    (λ c. inr (c.0, λ b. c.1 (f b)))
    k

-- an edit of rising pairs that acts steadily on whether the pair is there
record Steadily (q : Pair) (edit : List Pair → List Pair) : Type 0 where
  act : Bool → Bool
  steady : IsSteady act
  acts : (ps : List Pair) → IsStrictlySortedBy pair_cmp ps → has pair_total q (edit ps) ≡ act (has pair_total q ps)

steadily_same : (q : Pair) → Steadily q (λ ps. ps)
steadily_same q = record { act = λ b. b; steady = inl (λ b. refl); acts = λ ps s. refl }

steadily_none : (q : Pair) → Steadily q (λ ps. [])
steadily_none q = record { act = λ b. false; steady = inr (false, λ b. refl); acts = λ ps s. refl }

steadily_then : (q : Pair) (first second : List Pair → List Pair) → ((ps : List Pair) → IsStrictlySortedBy pair_cmp ps → IsStrictlySortedBy pair_cmp (first ps)) → Steadily q first → Steadily q second → Steadily q (λ ps. second (first ps))
steadily_then q first second rises h k = record {
  act = λ b. k.act (h.act b);
  steady = steady_then h.act k.act h.steady k.steady;
  acts = λ ps s. k.acts (first ps) (rises ps s) ∙ ap k.act (h.acts ps s);
}

steady_or : (a : Bool) → IsSteady (λ b. a || b)
steady_or true = inr (true, λ b. refl)
steady_or false = inl (λ b. refl)

and_true : (b : Bool) → (b && true) ≡ b
and_true true = refl
and_true false = refl

and_false : (b : Bool) → (b && false) ≡ false
and_false true = refl
and_false false = refl

steady_and : (a : Bool) → IsSteady (λ b. b && a)
steady_and true = inl and_true
steady_and false = inr (false, and_false)

steadily_filtered : (q : Pair) (test : Pair → Bool) → Steadily q (λ ps. filter test ps)
steadily_filtered q test = record {
  act = λ b. b && test q;
  steady = steady_and (test q);
  acts = λ ps s. is_member-filter (eq_by_cmp_equiv pair_total) test q (λ x e. ap test (key_at pair_exact q x e)) ps;
}

steadily_op : (q : Pair) (op : Op) → Steadily q (λ ps. after_op ps op)
steadily_op q (AddPair p) = record { act = λ b. eq_by_cmp pair_cmp q p || b; steady = steady_or (eq_by_cmp pair_cmp q p); acts = λ ps s. has-insert_key pair_total q p ps }
steadily_op q (DropPair p) = steadily_filtered q (λ x. not (pair_eq x p))
steadily_op q (DropName name) = steadily_filtered q (λ x. not (is_named name x))
steadily_op q DropAll = steadily_none q

steadily_merged : (q : Pair) (ops : List Op) → Steadily q (λ ps. merged ps ops)
steadily_merged q [] = steadily_same q
steadily_merged q (op ∷ ops) = steadily_then q (λ ps. after_op ps op) (λ ps. merged ps ops) (λ ps s. rising_after_op ps op s) (steadily_op q op) (steadily_merged q ops)

-- ---- one item

-- what a change makes of the pairs of one item
abbrev pairs_after : ℕ → List ℕ → List ℕ → List Pair → Change → List Pair
pairs_after a d i ps (MakeDomain account domain) = ps
pairs_after a d i ps (DropDomain account domain) = cond (is_at (domain_cmp (a, d)) (account, domain)) [] ps
pairs_after a d i ps (Edit account domain item ops) = cond (is_at (domain_cmp (a, d)) (account, domain) && is_at (text_cmp i) item) (merged ps ops) ps

steadily_if : (q : Pair) (b : Bool) (edit : List Pair → List Pair) → Steadily q edit → Steadily q (λ ps. cond b (edit ps) ps)
steadily_if q true edit h = h
steadily_if q false edit h = steadily_same q

steadily_change : (a : ℕ) (d i : List ℕ) (q : Pair) (change : Change) → Steadily q (λ ps. pairs_after a d i ps change)
steadily_change a d i q (MakeDomain account domain) = steadily_same q
steadily_change a d i q (DropDomain account domain) = steadily_if q (is_at (domain_cmp (a, d)) (account, domain)) (λ ps. []) (steadily_none q)
steadily_change a d i q (Edit account domain item ops) = steadily_if q (is_at (domain_cmp (a, d)) (account, domain) && is_at (text_cmp i) item) (λ ps. merged ps ops) (steadily_merged q ops)

rising_if : (b : Bool) (ps qs : List Pair) → IsStrictlySortedBy pair_cmp ps → IsStrictlySortedBy pair_cmp qs → IsStrictlySortedBy pair_cmp (cond b ps qs)
rising_if true ps qs s t = s
rising_if false ps qs s t = t

rising_change : (a : ℕ) (d i : List ℕ) (ps : List Pair) (change : Change) → IsStrictlySortedBy pair_cmp ps → IsStrictlySortedBy pair_cmp (pairs_after a d i ps change)
rising_change a d i ps (MakeDomain account domain) s = s
rising_change a d i ps (DropDomain account domain) s = rising_if (is_at (domain_cmp (a, d)) (account, domain)) [] ps (rising_none [] refl) s
rising_change a d i ps (Edit account domain item ops) s = rising_if (is_at (domain_cmp (a, d)) (account, domain) && is_at (text_cmp i) item) (merged ps ops) ps (rising_merged ps ops s) s

-- what changes make of the pairs of one item
abbrev pairs_then : ℕ → List ℕ → List ℕ → List Pair → List Change → List Pair
pairs_then a d i ps changes = fold (pairs_after a d i) ps changes

rising_changes : (a : ℕ) (d i : List ℕ) (ps : List Pair) (changes : List Change) → IsStrictlySortedBy pair_cmp ps → IsStrictlySortedBy pair_cmp (pairs_then a d i ps changes)
rising_changes a d i ps [] s = s
rising_changes a d i ps (c ∷ cs) s = rising_changes a d i (pairs_after a d i ps c) cs (rising_change a d i ps c s)

steadily_changes : (a : ℕ) (d i : List ℕ) (q : Pair) (changes : List Change) → Steadily q (λ ps. pairs_then a d i ps changes)
steadily_changes a d i q [] = steadily_same q
steadily_changes a d i q (c ∷ cs) = steadily_then q (λ ps. pairs_after a d i ps c) (λ ps. pairs_then a d i ps cs) (λ ps s. rising_change a d i ps c s) (steadily_change a d i q c) (steadily_changes a d i q cs)

settled_pairs : (a : ℕ) (d i : List ℕ) (ps : List Pair) (changes : List Change) → IsStrictlySortedBy pair_cmp ps → pairs_then a d i (pairs_then a d i ps changes) changes ≡ pairs_then a d i ps changes
settled_pairs a d i ps changes s =
    let once = pairs_then a d i ps changes in
    let rises = rising_changes a d i ps changes s in
    same_members pair_total pair_exact (pairs_then a d i once changes) once (rising_changes a d i once changes rises) rises (λ q.
    let h = steadily_changes a d i q changes in
    h.acts once rises ∙ ap h.act (h.acts ps s) ∙ steady_twice h.act h.steady (has pair_total q ps) ∙ sym (h.acts ps s))

-- ---- one domain

abbrev there_after : ℕ → List ℕ → Bool → Change → Bool
there_after a d b (MakeDomain account domain) = cond (is_at (domain_cmp (a, d)) (account, domain)) true b
there_after a d b (DropDomain account domain) = cond (is_at (domain_cmp (a, d)) (account, domain)) false b
there_after a d b (Edit account domain item ops) = cond (is_at (domain_cmp (a, d)) (account, domain)) true b

steady_if : (b fixed : Bool) → IsSteady (λ there. cond b fixed there)
steady_if true fixed = inr (fixed, λ there. refl)
steady_if false fixed = inl (λ there. refl)

steady_there : (a : ℕ) (d : List ℕ) (change : Change) → IsSteady (λ b. there_after a d b change)
steady_there a d (MakeDomain account domain) = steady_if (is_at (domain_cmp (a, d)) (account, domain)) true
steady_there a d (DropDomain account domain) = steady_if (is_at (domain_cmp (a, d)) (account, domain)) false
steady_there a d (Edit account domain item ops) = steady_if (is_at (domain_cmp (a, d)) (account, domain)) true

abbrev there_then : ℕ → List ℕ → Bool → List Change → Bool
there_then a d b changes = fold (there_after a d) b changes

steady_changes : (a : ℕ) (d : List ℕ) (changes : List Change) → IsSteady (λ b. there_then a d b changes)
steady_changes a d [] = inl (λ b. refl)
steady_changes a d (c ∷ cs) = steady_then (λ b. there_after a d b c) (λ b. there_then a d b cs) (steady_there a d c) (steady_changes a d cs)

-- ---- from accounts to one place

some_if : {X : Type 0} (b : Bool) (x y : Option X) → is_some (cond b x y) ≡ cond b (is_some x) (is_some y)
some_if true x y = refl
some_if false x y = refl

has_domain-after : (accounts : DomainEntries) (change : Change) (a : ℕ) (d : List ℕ) → AreAccounts accounts → has_domain (after_change accounts change) a d ≡ there_after a d (has_domain accounts a d) change
has_domain-after accounts (MakeDomain account domain) a d h =
    let new = Some (items_or_none accounts account domain) in
    ap is_some (found-placed domain_total accounts (account, domain) (a, d) new h.rising) ∙ some_if (is_at (domain_cmp (a, d)) (account, domain)) new (items_of accounts a d)
has_domain-after accounts (DropDomain account domain) a d h =
    ap is_some (found-placed domain_total accounts (account, domain) (a, d) None h.rising) ∙ some_if (is_at (domain_cmp (a, d)) (account, domain)) None (items_of accounts a d)
has_domain-after accounts (Edit account domain item ops) a d h =
    let new = Some (edited (items_or_none accounts account domain) item ops) in
    ap is_some (found-placed domain_total accounts (account, domain) (a, d) new h.rising) ∙ some_if (is_at (domain_cmp (a, d)) (account, domain)) new (items_of accounts a d)

has_domain-state : (accounts : DomainEntries) (changes : List Change) (a : ℕ) (d : List ℕ) → AreAccounts accounts → has_domain (state accounts changes) a d ≡ there_then a d (has_domain accounts a d) changes
has_domain-state accounts [] a d h = refl
has_domain-state accounts (c ∷ cs) a d h =
    has_domain-state (after_change accounts c) cs a d (are_accounts_after accounts c h)
    ∙ ap (λ b. there_then a d b cs) (has_domain-after accounts c a d h)

-- pairs under a choice of items
pairs_if : (b : Bool) (x y : Option (List (List ℕ × List Pair))) (i : List ℕ) → pairs_at (unwrap_or (cond b x y) []) i ≡ cond b (pairs_at (unwrap_or x []) i) (pairs_at (unwrap_or y []) i)
pairs_if true x y i = refl
pairs_if false x y i = refl

-- a choice whose first side is the second's in another name
kept_if : {X : Type 0} (b : Bool) (x y : X) → (b ≡ true → x ≡ y) → cond b x y ≡ y
kept_if true x y h = h refl
kept_if false x y h = refl

chosen_twice : {X : Type 0} (b c : Bool) (x y z : X) → (b ≡ true → y ≡ cond c x z) → cond b y z ≡ cond (b && c) x z
chosen_twice true c x y z h = h refl
chosen_twice false c x y z h = refl

pairs_of-after : (accounts : DomainEntries) (change : Change) (a : ℕ) (d i : List ℕ) → AreAccounts accounts → pairs_of (after_change accounts change) a d i ≡ pairs_after a d i (pairs_of accounts a d i) change
pairs_of-after accounts (MakeDomain account domain) a d i h =
    let items = items_or_none accounts account domain in
    let key : ℕ × List ℕ = (account, domain) in
    ap (λ o. pairs_at (unwrap_or o []) i) (found-placed domain_total accounts key (a, d) (Some items) h.rising)
    ∙ pairs_if (is_at (domain_cmp (a, d)) key) (Some items) (items_of accounts a d) i
    ∙ kept_if (is_at (domain_cmp (a, d)) key) (pairs_at items i) (pairs_of accounts a d i)
    (λ t. ap (λ (k : ℕ × List ℕ). pairs_of accounts k.0 k.1 i) (sym (key_at domain_exact (a, d) key t)))
pairs_of-after accounts (DropDomain account domain) a d i h =
    ap (λ o. pairs_at (unwrap_or o []) i) (found-placed domain_total accounts (account, domain) (a, d) None h.rising)
    ∙ pairs_if (is_at (domain_cmp (a, d)) (account, domain)) None (items_of accounts a d) i
pairs_of-after accounts (Edit account domain item ops) a d i h =
    let items = items_or_none accounts account domain in
    let key : ℕ × List ℕ = (account, domain) in
    let new = edited items item ops in
    ap (λ o. pairs_at (unwrap_or o []) i) (found-placed domain_total accounts key (a, d) (Some new) h.rising)
    ∙ pairs_if (is_at (domain_cmp (a, d)) key) (Some new) (items_of accounts a d) i
    ∙ chosen_twice (is_at (domain_cmp (a, d)) key) (is_at (text_cmp i) item) (merged (pairs_of accounts a d i) ops) (pairs_at new i) (pairs_of accounts a d i)
    (λ t.
    let here : pairs_at items i ≡ pairs_of accounts a d i = ap (λ (k : ℕ × List ℕ). pairs_of accounts k.0 k.1 i) (sym (key_at domain_exact (a, d) key t)) in
    pairs_at-edited items item i ops (are_items accounts account domain h)
    ∙ by_bool (is_at (text_cmp i) item)
    (λ at.
    let same : pairs_at items item ≡ pairs_of accounts a d i = ap (pairs_at items) (sym (key_at exact_bytes i item at)) ∙ here in
    (λ j. cond (is_at (text_cmp i) item) (merged (same j) ops) (here j)))
    (λ off.
    ap (λ b. cond b (merged (pairs_at items item) ops) (pairs_at items i)) off ∙ here
    ∙ sym (ap (λ b. cond b (merged (pairs_of accounts a d i) ops) (pairs_of accounts a d i)) off)))

pairs_of-state : (accounts : DomainEntries) (changes : List Change) (a : ℕ) (d i : List ℕ) → AreAccounts accounts → pairs_of (state accounts changes) a d i ≡ pairs_then a d i (pairs_of accounts a d i) changes
pairs_of-state accounts [] a d i h = refl
pairs_of-state accounts (c ∷ cs) a d i h =
    pairs_of-state (after_change accounts c) cs a d i (are_accounts_after accounts c h)
    ∙ ap (λ ps. pairs_then a d i ps cs) (pairs_of-after accounts c a d i h)

pub places_settle : (seen accounts : DomainEntries) (done more : List Change) (place : Place) → AreAccounts seen → AreAccounts accounts
    → AgreesAt place seen (state accounts done) → AgreesAt place (state seen (done ++ more)) (state accounts (done ++ more))
places_settle seen accounts done more (domain_at a d) s h agrees =
    let f : Bool → Bool = λ b. there_then a d b done in
    let at : has_domain seen a d ≡ f (has_domain accounts a d) = agrees ∙ has_domain-state accounts done a d h in
    let settled : f (has_domain seen a d) ≡ f (has_domain accounts a d) = ap f at ∙ steady_twice f (steady_changes a d done) (has_domain accounts a d) in
    has_domain-state seen (done ++ more) a d s
    ∙ fold-append (there_after a d) (has_domain seen a d) done more
    ∙ ap (λ b. there_then a d b more) settled
    ∙ sym (fold-append (there_after a d) (has_domain accounts a d) done more)
    ∙ sym (has_domain-state accounts (done ++ more) a d h)
places_settle seen accounts done more (item_at a d i) s h agrees =
    let f : List Pair → List Pair = λ ps. pairs_then a d i ps done in
    let old = pairs_of accounts a d i in
    let rises = pairs_at-rise (items_or_none accounts a d) i (are_items accounts a d h) in
    let at : pairs_of seen a d i ≡ f old = agrees ∙ pairs_of-state accounts done a d i h in
    let settled : f (pairs_of seen a d i) ≡ f old = ap f at ∙ settled_pairs a d i old done rises in
    pairs_of-state seen (done ++ more) a d i s
    ∙ fold-append (pairs_after a d i) (pairs_of seen a d i) done more
    ∙ ap (λ ps. pairs_then a d i ps more) settled
    ∙ sym (fold-append (pairs_after a d i) old done more)
    ∙ sym (pairs_of-state accounts (done ++ more) a d i h)
