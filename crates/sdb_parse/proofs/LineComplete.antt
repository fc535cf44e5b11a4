-- A Select expression of the grammar is what the reader gives.
use Rattle.std.proofs.Common.{◌≡◌, ℕ, Bool, true, false, List, [], ◌∷◌, Option, Some, None, refl, ap, ◌∙◌}
use Rattle.sdb_parse.specs.declared.expr.Expr.{Expr}
use Rattle.sdb_parse.specs.declared.joint.Joint.TheVariants as joint
use Rattle.sdb_parse.specs.declared.select.Output.{Output}
use Rattle.sdb_parse.specs.declared.select.Select.{Select}
use Rattle.sdb_parse.specs.declared.select.Sort.{Sort}
use Rattle.sdb_parse.specs.declared.select.SortKey.{SortKey}
use Rattle.sdb_parse.specs.declared.sign.Sign.{Sign}
use Rattle.sdb_parse.specs.declared.sign.Sign.TheVariants as sign
use Rattle.sdb_parse.specs.declared.term.Term.{Term}
use Rattle.sdb_parse.specs.Signs.{same}
use Rattle.sdb_parse.specs.Reading.{attr_at, expect, item_name_at, listed, name_at, nothing_left, sees, sees_call, text_at}
use Rattle.sdb_parse.specs.Conditions.{joined_at}
use Rattle.sdb_parse.specs.Grammar.{IsAttr, most_depth, IsLimit, no_limit, limited, IsKey, by_attr, by_item_name, IsDirected, unsaid, upwards, downwards, IsSorted, no_sort, sorted, IsFiltered, no_condition, filtered, IsOutput, all, names, count, attrs, Listing, listing, IsSelect, select, Joined}
use Rattle.sdb_parse.specs.Lines.{condition_at, count_at, direction_at, key_at, limit_at, limited_to, output_at, select_at, sort_at}
use Rattle.sdb_parse.proofs.ConditionLemmas.{chain_some}
use Rattle.sdb_parse.proofs.CompleteLemmas.{if_yes, if_no, expect_yes, text_yes, sees_yes, sees_no, call_no, call_yes, name_complete, attr_complete, attr_shorter, attr_sees, attr_calls, item_name_complete, item_name_called, item_name_sees, listing_complete}
use Rattle.sdb_parse.proofs.ConditionComplete.{spells_complete}

none_seen : (s : Sign) → sees s [] ≡ false
unfolding sees
none_seen s = refl

nothing_ends : nothing_left [] ≡ true
unfolding nothing_left
nothing_ends = refl

-- what a limit begins with
limit_sees : (s : Sign) → same sign.Limit s ≡ false → (ts : List Term) (limit : Option ℕ) → IsLimit ts limit → sees s ts ≡ false
limit_sees s differs _ _ no_limit = none_seen s
limit_sees s differs _ _ (limited w d n is_w is_d is) = sees_no s sign.Limit w (d ∷ []) is_w differs

limit_complete : (ts : List Term) (limit : Option ℕ) → IsLimit ts limit → limit_at ts ≡ Some (limit, [])
unfolding limit_at
limit_complete _ _ no_limit = if_no (sees sign.Limit []) _ _ (none_seen sign.Limit)
limit_complete _ _ (limited w d n is_w is_d is) =
    if_yes (sees sign.Limit (w ∷ d ∷ [])) _ _ (sees_yes sign.Limit w (d ∷ []) is_w)
    ∙ (chain_some _ (expect sign.Limit (w ∷ d ∷ [])) tt (d ∷ []) (expect_yes sign.Limit w (d ∷ []) is_w)
    ∙ (chain_some _ (text_at sign.Digits (d ∷ [])) d.text [] (text_yes sign.Digits d [] is_d) ∙ ap (λ o. limited_to o []) is))

key_complete : (ts : List Term) (by : SortKey) (rest : List Term) → IsKey ts by rest → key_at ts ≡ Some (by, rest)
unfolding key_at
key_complete _ _ _ (by_attr ts name rest is) = if_no (sees_call sign.ItemName ts) _ _ (attr_calls sign.ItemName refl ts name rest is) ∙ chain_some _ (attr_at ts) name rest (attr_complete ts name rest is)
key_complete _ _ _ (by_item_name ts rest is) = if_yes (sees_call sign.ItemName ts) _ _ (item_name_called ts rest is) ∙ chain_some _ (item_name_at ts) tt rest (item_name_complete ts rest is)

direction_complete : (ts : List Term) (down : Bool) (rest : List Term) (limit : Option ℕ) → IsDirected ts down rest → IsLimit rest limit → direction_at ts ≡ Some (down, rest)
unfolding direction_at
direction_complete _ _ _ limit (unsaid ts) is =
    if_no (sees sign.Asc ts) _ _ (limit_sees sign.Asc refl ts limit is) ∙ if_no (sees sign.Desc ts) _ _ (limit_sees sign.Desc refl ts limit is)
direction_complete _ _ _ limit (upwards t ts is_t) is = if_yes (sees sign.Asc (t ∷ ts)) _ _ (sees_yes sign.Asc t ts is_t) ∙ chain_some _ (expect sign.Asc (t ∷ ts)) tt ts (expect_yes sign.Asc t ts is_t)
direction_complete _ _ _ limit (downwards t ts is_t) is =
    if_no (sees sign.Asc (t ∷ ts)) _ _ (sees_no sign.Asc sign.Desc t ts is_t refl) ∙ (if_yes (sees sign.Desc (t ∷ ts)) _ _ (sees_yes sign.Desc t ts is_t)
    ∙ chain_some _ (expect sign.Desc (t ∷ ts)) tt ts (expect_yes sign.Desc t ts is_t))

-- the order and the limit: where the limit begins, and that both are read
sort_complete : (ts : List Term) (sort : Option Sort) (limit : Option ℕ) → IsSorted ts sort limit → (mid : List Term) × (sort_at ts ≡ Some (sort, mid)) × (limit_at mid ≡ Some (limit, []))
unfolding sort_at
sort_complete _ _ _ (no_sort ts limit is) = (ts, if_no (sees sign.Order ts) _ _ (limit_sees sign.Order refl ts limit is), limit_complete ts limit is)
sort_complete _ _ _ (sorted o b ts mid rest by down limit is_o is_b is_key is_down is) = (
  rest,
  if_yes (sees sign.Order (o ∷ b ∷ ts)) _ _ (sees_yes sign.Order o (b ∷ ts) is_o)
      ∙ (chain_some _ (expect sign.Order (o ∷ b ∷ ts)) tt (b ∷ ts) (expect_yes sign.Order o (b ∷ ts) is_o)
      ∙ (chain_some _ (expect sign.By (b ∷ ts)) tt ts (expect_yes sign.By b ts is_b)
      ∙ (chain_some _ (key_at ts) by mid (key_complete ts by mid is_key) ∙ chain_some _ (direction_at mid) down rest (direction_complete mid down rest limit is_down is)))),
  limit_complete rest limit is,
)

sorted_sees : (s : Sign) → same sign.Limit s ≡ false → same sign.Order s ≡ false → (ts : List Term) (sort : Option Sort) (limit : Option ℕ) → IsSorted ts sort limit → sees s ts ≡ false
sorted_sees s by_limit by_order _ _ _ (no_sort ts limit is) = limit_sees s by_limit ts limit is
sorted_sees s by_limit by_order _ _ _ (sorted o b ts mid rest by down limit is_o is_b is_key is_down is) = sees_no s sign.Order o (b ∷ ts) is_o by_order

condition_complete : (ts : List Term) (cond : Option Expr) (sort : Option Sort) (limit : Option ℕ) → IsFiltered ts cond sort limit →
    (mid : List Term) × (condition_at ts ≡ Some (cond, mid)) × IsSorted mid sort limit
unfolding condition_at
condition_complete _ _ _ _ (no_condition ts sort limit is) = (ts, if_no (sees sign.Where ts) _ _ (sorted_sees sign.Where refl refl ts sort limit is), is)
condition_complete _ _ _ _ (filtered w ts mid e sort limit is_w is_e is) = (
  mid,
  if_yes (sees sign.Where (w ∷ ts)) _ _ (sees_yes sign.Where w ts is_w)
      ∙ (chain_some _ (expect sign.Where (w ∷ ts)) tt ts (expect_yes sign.Where w ts is_w)
      ∙ chain_some _ (joined_at joint.Or most_depth ts) e mid
      (spells_complete (Joined joint.Or) most_depth ts e mid is_e
      (sorted_sees sign.Or refl refl mid sort limit is, sorted_sees sign.And refl refl mid sort limit is, sorted_sees sign.Intersection refl refl mid sort limit is))),
  is,
)

count_complete : (f o s c : Term) (rest : List Term) → f.sign ≡ sign.Count → o.sign ≡ sign.Open → s.sign ≡ sign.Star → c.sign ≡ sign.Close → count_at (f ∷ o ∷ s ∷ c ∷ rest) ≡ Some (tt, rest)
unfolding count_at
count_complete f o s c rest is_f is_o is_s is_c =
    chain_some _ (expect sign.Count (f ∷ o ∷ s ∷ c ∷ rest)) tt (o ∷ s ∷ c ∷ rest) (expect_yes sign.Count f (o ∷ s ∷ c ∷ rest) is_f)
    ∙ (chain_some _ (expect sign.Open (o ∷ s ∷ c ∷ rest)) tt (s ∷ c ∷ rest) (expect_yes sign.Open o (s ∷ c ∷ rest) is_o)
    ∙ (chain_some _ (expect sign.Star (s ∷ c ∷ rest)) tt (c ∷ rest) (expect_yes sign.Star s (c ∷ rest) is_s) ∙ expect_yes sign.Close c rest is_c))

-- what the first of some names isn't
listed_sees : (ts : List Term) (ns : List (List ℕ)) (rest : List Term) → Listing sign.Comma IsAttr ts ns rest →
    (sees sign.Star ts ≡ false) × (sees_call sign.ItemName ts ≡ false) × (sees_call sign.Count ts ≡ false)
listed_sees _ _ _ (listing ts one mid others rest first after) = (attr_sees sign.Star refl ts one mid first, attr_calls sign.ItemName refl ts one mid first, attr_calls sign.Count refl ts one mid first)

output_is : (ts : List Term) (out : Output) (rest : List Term) → IsOutput ts out rest → sees sign.Comma rest ≡ false → output_at ts ≡ Some (out, rest)
unfolding output_at
output_is _ _ _ (all t rest is_t) ends = if_yes (sees sign.Star (t ∷ rest)) _ _ (sees_yes sign.Star t rest is_t) ∙ chain_some _ (expect sign.Star (t ∷ rest)) tt rest (expect_yes sign.Star t rest is_t)
output_is _ _ _ (names ts rest is) ends =
    if_no (sees sign.Star ts) _ _ (item_name_sees sign.Star refl ts rest is) ∙ (if_yes (sees_call sign.ItemName ts) _ _ (item_name_called ts rest is)
    ∙ chain_some _ (item_name_at ts) tt rest (item_name_complete ts rest is))
output_is _ _ _ (count f o s c rest is_f is_o is_s is_c) ends =
    if_no (sees sign.Star (f ∷ o ∷ s ∷ c ∷ rest)) _ _ (sees_no sign.Star sign.Count f (o ∷ s ∷ c ∷ rest) is_f refl)
    ∙ (if_no (sees_call sign.ItemName (f ∷ o ∷ s ∷ c ∷ rest)) _ _ (call_no sign.ItemName sign.Count f (o ∷ s ∷ c ∷ rest) is_f refl)
    ∙ (if_yes (sees_call sign.Count (f ∷ o ∷ s ∷ c ∷ rest)) _ _ (call_yes sign.Count f o (s ∷ c ∷ rest) is_f is_o)
    ∙ chain_some _ (count_at (f ∷ o ∷ s ∷ c ∷ rest)) tt rest (count_complete f o s c rest is_f is_o is_s is_c)))
output_is _ _ _ (attrs ts ns rest is) ends =
    let sees_none = listed_sees ts ns rest is in
    if_no (sees sign.Star ts) _ _ sees_none.0 ∙ (if_no (sees_call sign.ItemName ts) _ _ sees_none.1 ∙ (if_no (sees_call sign.Count ts) _ _ sees_none.2
    ∙ chain_some _ (listed sign.Comma attr_at ts) ns rest (listing_complete sign.Comma attr_at IsAttr attr_complete attr_shorter ts ns rest is ends)))

output_complete : (ts : List Term) (out : Output) (f : Term) (mid : List Term) → IsOutput ts out (f ∷ mid) → f.sign ≡ sign.From → output_at ts ≡ Some (out, f ∷ mid)
output_complete ts out f mid is is_f = output_is ts out (f ∷ mid) is (sees_no sign.Comma sign.From f mid is_f refl)

pub select_complete : (ts : List Term) (s : Select) → IsSelect ts s → select_at ts ≡ Some (s, [])
unfolding select_at
select_complete _ _ (select s f ts mid rest out domain cond sort limit is_s is_out is_f is_domain is) =
    let c = condition_complete rest cond sort limit is in
    let o = sort_complete c.0 sort limit c.2 in
    chain_some _ (expect sign.Select (s ∷ ts)) tt ts (expect_yes sign.Select s ts is_s)
    ∙ (chain_some _ (output_at ts) out (f ∷ mid) (output_complete ts out f mid is_out is_f)
    ∙ (chain_some _ (expect sign.From (f ∷ mid)) tt mid (expect_yes sign.From f mid is_f)
    ∙ (chain_some _ (name_at mid) domain rest (name_complete mid domain rest is_domain)
    ∙ (chain_some _ (condition_at rest) cond c.0 c.1
    ∙ (chain_some _ (sort_at c.0) sort o.0 o.1
    ∙ (chain_some _ (limit_at o.0) limit [] o.2 ∙ if_yes (nothing_left []) _ None nothing_ends))))))
