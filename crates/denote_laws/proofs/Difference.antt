-- Of a good database rows of one table went and others came: it violates nothing then, if what came
-- is matched and what went may go.
use Rattle.std.proofs.Common.{◌≡◌, refl, ap, sym, ◌∙◌, subst, Bool, true, false, cond, not, ◌&&◌, ◌||◌, List, [], ◌∷◌, ◌++◌, map, Some}
use Rattle.std.specs.Prelude.{filter}
use Rattle.std.specs.List.{list_any, list_all}
use Rattle.std.specs.FinMap.{get}
use Rattle.std.specs.Cmp.Lexicographic.{bytes_decides}
use Rattle.std.proofs.lemmas.List.Folds.{list_any-append}
use Rattle.sqlval.specs.declared.schema.Constraint.{Constraint}
use Rattle.sqlval.specs.declared.schema.Reference.{Reference}
use Rattle.sqlval.specs.declared.schema.Rule.{Rule}
use Rattle.sqlval.specs.declared.schema.Rule.TheVariants.{NotNull, PrimaryKey, Unique, Check, ForeignKey}
use Rattle.sqlval.specs.Matching.{key_of, matches}
use Rattle.sqlval.specs.Schema.{same_name}
use Rattle.sqlval.specs.Value.{Row}
use Rattle.denote.specs.Bag.{Permutes}
use Rattle.denote.specs.Database.{Name, Table, Database, rows_of, rows_in, CheckReading, violated_by, is_matched, has_unmatched, is_unmatched, unmatched_by, violated_at, violated_in, IsGoodIn, IsGood}
use Rattle.operator_laws.specs.Same.{Every}
use Rattle.operator_laws.proofs.Orders.{list_any-permutes}
use Rattle.operator_laws.proofs.Permuting.{Permutes-refl}
use Rattle.denote_laws.specs.Difference.{Differs, AreMatched, may_go, may_all_go, MayGo}
use Rattle.denote_laws.proofs.Good.{every-of_all, same_some}
use Rattle.denote_laws.proofs.Referring.{still_all_matched}
use Rattle.denote_laws.proofs.Tables.{any-same, is_matched-permutes, unmatched_by-same}
use Rattle.denote_laws.proofs.Violated.{unviolated-in}

-- ---- lists

pub every-both : {A : Type 0} (P Q R : A → Type 0) (xs : List A) → ((x : A) → P x → Q x → R x) → Every P xs → Every Q xs → Every R xs
every-both P Q R [] f h k = tt
every-both P Q R (x ∷ xs) f h k = (f x h.0 k.0, every-both P Q R xs f h.1 k.1)

pub every-weaker : {A : Type 0} (P Q : A → Type 0) (xs : List A) → ((x : A) → P x → Q x) → Every P xs → Every Q xs
every-weaker P Q [] f h = tt
every-weaker P Q (x ∷ xs) f h = (f x h.0, every-weaker P Q xs f h.1)

-- the names of the constraints of which something is so
abbrev named_of : (Constraint → Bool) → List Constraint → List Name
named_of p cs = map (λ c. c.name) (filter p cs)

pub none-each : (p : Constraint → Bool) (cs : List Constraint) → named_of p cs ≡ [] → Every (λ c. p c ≡ false) cs
none-each p [] e = tt
none-each p (c ∷ cs) e = at (p c) refl e (none-each p cs)
  where
    at : (b : Bool) → p c ≡ b → map (λ (k : Constraint). k.name) (cond b (c ∷ filter p cs) (filter p cs)) ≡ [] → (named_of p cs ≡ [] → Every (λ k. p k ≡ false) cs)
        → (p c ≡ false) × Every (λ k. p k ≡ false) cs
    at true is e rest = absurd (cc)
    at false is e rest = (is, rest e)

pub each-none : (p : Constraint → Bool) (cs : List Constraint) → Every (λ c. p c ≡ false) cs → named_of p cs ≡ []
each-none p [] h = refl
each-none p (c ∷ cs) h = at (p c) h.0 (each-none p cs h.1)
  where
    at : (b : Bool) → b ≡ false → named_of p cs ≡ [] → map (λ (k : Constraint). k.name) (cond b (c ∷ filter p cs) (filter p cs)) ≡ []
    at true is e = absurd (cc)
    at false is e = e

pub both_none : {X : Type 0} (xs ys : List X) → xs ≡ [] → ys ≡ [] → xs ++ ys ≡ []
both_none [] ys e f = f
both_none (x ∷ xs) ys e f = absurd (cc)

all-same : {X : Type 0} (p q : X → Bool) (xs : List X) → ((x : X) → p x ≡ q x) → list_all p xs ≡ list_all q xs
all-same p q [] h = refl
all-same p q (x ∷ xs) h = rw (h x, all-same p q xs h) refl

and-weaker : (a b c d : Bool) → (a ≡ true → c ≡ true) → (b ≡ true → d ≡ true) → (a && b) ≡ true → (c && d) ≡ true
and-weaker true b c d f g e = both c d (f refl) (g e)
  where
    both : (c d : Bool) → c ≡ true → d ≡ true → (c && d) ≡ true
    both true d e f = f
    both false d e f = absurd (cc)
and-weaker false b c d f g e = absurd (cc)

all-weaker : {X : Type 0} (p q : X → Bool) (xs : List X) → ((x : X) → p x ≡ true → q x ≡ true) → list_all p xs ≡ true → list_all q xs ≡ true
all-weaker p q [] h e = refl
all-weaker p q (x ∷ xs) h e = and-weaker (p x) (list_all p xs) (q x) (list_all q xs) (h x) (all-weaker p q xs h) e

or-first : (a b : Bool) → (a || b) ≡ false → a ≡ false
or-first true b e = absurd (cc)
or-first false b e = refl

pub or-none : (a b : Bool) → a ≡ false → b ≡ false → (a || b) ≡ false
or-none true b e f = absurd (cc)
or-none false b e f = f

-- ---- other rows of the tables at both ends

pub unmatched-others : (reference : Reference) (others more rows : List Row) → Permutes others more → has_unmatched reference others rows ≡ has_unmatched reference more rows
unmatched-others reference others more rows p =
    any-same (λ row. not (is_matched reference others row)) (λ row. not (is_matched reference more row)) rows (λ row. ap not (is_matched-permutes reference others more row p))

may_go-others : (reference : Reference) (others more rows : List Row) (gone : Row) → Permutes others more → may_go reference others rows gone ≡ may_go reference more rows gone
may_go-others reference others more rows gone p =
    ap (λ b. b || not (list_any (matches reference.columns (key_of reference.referenced gone)) rows)) (list_any-permutes (matches reference.referenced (key_of reference.referenced gone)) others more p)

-- of fewer rows that reference a table
fewer-unmatched : (tables : Name → List Row) (rows more : List Row) (rule : Rule) → is_unmatched tables (rows ++ more) rule ≡ false → is_unmatched tables rows rule ≡ false
fewer-unmatched tables rows more (NotNull column) e = refl
fewer-unmatched tables rows more (PrimaryKey columns) e = refl
fewer-unmatched tables rows more (Unique columns) e = refl
fewer-unmatched tables rows more (Check text) e = refl
fewer-unmatched tables rows more (ForeignKey reference) e =
    or-first (has_unmatched reference (tables reference.table) rows) (has_unmatched reference (tables reference.table) more)
    (sym (list_any-append (λ row. not (is_matched reference (tables reference.table) row)) rows more) ∙ e)

both-unmatched : (tables : Name → List Row) (rows more : List Row) (rule : Rule) → is_unmatched tables rows rule ≡ false → is_unmatched tables more rule ≡ false
    → is_unmatched tables (rows ++ more) rule ≡ false
both-unmatched tables rows more (NotNull column) e f = refl
both-unmatched tables rows more (PrimaryKey columns) e f = refl
both-unmatched tables rows more (Unique columns) e f = refl
both-unmatched tables rows more (Check text) e f = refl
both-unmatched tables rows more (ForeignKey reference) e f =
    list_any-append (λ row. not (is_matched reference (tables reference.table) row)) rows more
    ∙ or-none (has_unmatched reference (tables reference.table) rows) (has_unmatched reference (tables reference.table) more) e f

or_not-fewer : (a b c : Bool) → (a || not (b || c)) ≡ true → (a || not b) ≡ true
or_not-fewer true b c e = refl
or_not-fewer false true c e = absurd (cc)
or_not-fewer false false c e = refl

may_go-fewer : (reference : Reference) (others rows more whole : List Row) (gone : Row) → Permutes (rows ++ more) whole → may_go reference others whole gone ≡ true
    → may_go reference others rows gone ≡ true
may_go-fewer reference others rows more whole gone p e = by (list_any (matches reference.referenced (key_of reference.referenced gone)) others) (matches reference.columns (key_of reference.referenced gone)) e
  where
    by : (a : Bool) (m : Row → Bool) → (a || not (list_any m whole)) ≡ true → (a || not (list_any m rows)) ≡ true
    by a m e = or_not-fewer a (list_any m rows) (list_any m more) (ap (λ b. a || not b) (sym (list_any-append m rows more) ∙ list_any-permutes m (rows ++ more) whole p) ∙ e)

pub may_all_go-fewer : (name : Name) (others gone rows more whole : List Row) (rule : Rule) → Permutes (rows ++ more) whole → may_all_go name others gone whole rule ≡ true
    → may_all_go name others gone rows rule ≡ true
may_all_go-fewer name others gone rows more whole (NotNull column) p e = refl
may_all_go-fewer name others gone rows more whole (PrimaryKey columns) p e = refl
may_all_go-fewer name others gone rows more whole (Unique columns) p e = refl
may_all_go-fewer name others gone rows more whole (Check text) p e = refl
may_all_go-fewer name others gone rows more whole (ForeignKey reference) p e = by (same_name reference.table name) e
  where
    by : (b : Bool) → (not b || list_all (may_go reference others whole) gone) ≡ true → (not b || list_all (may_go reference others rows) gone) ≡ true
    by true e = all-weaker (may_go reference others whole) (may_go reference others rows) gone (λ g h. may_go-fewer reference others rows more whole g p h) e
    by false e = refl

-- ---- the database

module _ (old new : Database) (name : Name) (came gone : List Row) (d : Differs old new name came gone) where
  pub went : Permutes (d.stay ++ gone) (rows_in old name)
  went = subst (Permutes (d.stay ++ gone)) (sym (ap rows_of d.was_there)) d.before

  pub arrived : Permutes (d.stay ++ came) (rows_in new name)
  arrived = subst (Permutes (d.stay ++ came)) (sym (ap rows_of d.there)) d.after

  -- rows that were matched are, where what went may go
  pub still : (rows : List Row) (rule : Rule) → is_unmatched (rows_in old) rows rule ≡ false → may_all_go name (rows_in new name) gone rows rule ≡ true → is_unmatched (rows_in new) rows rule ≡ false
  still rows (NotNull column) was free = refl
  still rows (PrimaryKey columns) was free = refl
  still rows (Unique columns) was free = refl
  still rows (Check text) was free = refl
  still rows (ForeignKey reference) was free = by (same_name reference.table name) refl free
    where
      by : (b : Bool) → same_name reference.table name ≡ b → (not b || list_all (may_go reference (rows_in new name) rows) gone) ≡ true → has_unmatched reference (rows_in new reference.table) rows ≡ false
      by true is free =
          let same : reference.table ≡ name = (bytes_decides reference.table name).0 is in
          let before : has_unmatched reference (d.stay ++ gone) rows ≡ false =
          unmatched-others reference (d.stay ++ gone) (rows_in old name) rows went ∙ ap (λ n. has_unmatched reference (rows_in old n) rows) (sym same) ∙ was in
          let may : list_all (may_go reference (d.stay ++ came) rows) gone ≡ true =
          all-same (may_go reference (d.stay ++ came) rows) (may_go reference (rows_in new name) rows) gone (λ g. may_go-others reference (d.stay ++ came) (rows_in new name) rows g arrived) ∙ free in
          ap (λ n. has_unmatched reference (rows_in new n) rows) same ∙ sym (unmatched-others reference (d.stay ++ came) (rows_in new name) rows arrived)
          ∙ still_all_matched reference d.stay gone came rows before may
      by false is free = ap (λ found. has_unmatched reference (rows_of found) rows) (d.others reference.table is) ∙ was

  all_still : (constraints : List Constraint) (rows : List Row) → Every (λ c. is_unmatched (rows_in old) rows c.rule ≡ false) constraints
      → Every (λ c. may_all_go name (rows_in new name) gone rows c.rule ≡ true) constraints → Every (λ c. is_unmatched (rows_in new) rows c.rule ≡ false) constraints
  all_still constraints rows was free = every-both (λ (c : Constraint). is_unmatched (rows_in old) rows c.rule ≡ false)
      (λ (c : Constraint). may_all_go name (rows_in new name) gone rows c.rule ≡ true) (λ (c : Constraint). is_unmatched (rows_in new) rows c.rule ≡ false) constraints
      (λ c h k. still rows c.rule h k) was free

  -- the table to which rows came
  own_matched : (constraints : List Constraint) → unmatched_by (rows_in old) constraints d.table.rows ≡ []
      → Every (λ c. may_all_go name (rows_in new name) gone d.now.rows c.rule ≡ true) constraints → unmatched_by (rows_in new) constraints came ≡ []
      → unmatched_by (rows_in new) constraints d.now.rows ≡ []
  own_matched constraints was free matched =
      let before : unmatched_by (rows_in old) constraints (d.stay ++ gone) ≡ [] =
      unmatched_by-same (rows_in old) (rows_in old) constraints (d.stay ++ gone) d.table.rows (λ n. Permutes-refl (rows_in old n)) d.before ∙ was in
      let stayed : Every (λ (c : Constraint). is_unmatched (rows_in old) d.stay c.rule ≡ false) constraints =
      every-weaker (λ (c : Constraint). is_unmatched (rows_in old) (d.stay ++ gone) c.rule ≡ false) (λ (c : Constraint). is_unmatched (rows_in old) d.stay c.rule ≡ false) constraints
      (λ c h. fewer-unmatched (rows_in old) d.stay gone c.rule h) (none-each (λ (c : Constraint). is_unmatched (rows_in old) (d.stay ++ gone) c.rule) constraints before) in
      let may : Every (λ (c : Constraint). may_all_go name (rows_in new name) gone d.stay c.rule ≡ true) constraints =
      every-weaker (λ (c : Constraint). may_all_go name (rows_in new name) gone d.now.rows c.rule ≡ true) (λ (c : Constraint). may_all_go name (rows_in new name) gone d.stay c.rule ≡ true) constraints
      (λ c h. may_all_go-fewer name (rows_in new name) gone d.stay came d.now.rows c.rule d.after h) free in
      let both : Every (λ (c : Constraint). is_unmatched (rows_in new) (d.stay ++ came) c.rule ≡ false) constraints =
      every-both (λ (c : Constraint). is_unmatched (rows_in new) d.stay c.rule ≡ false) (λ (c : Constraint). is_unmatched (rows_in new) came c.rule ≡ false)
      (λ (c : Constraint). is_unmatched (rows_in new) (d.stay ++ came) c.rule ≡ false) constraints (λ c h k. both-unmatched (rows_in new) d.stay came c.rule h k)
      (all_still constraints d.stay stayed may) (none-each (λ (c : Constraint). is_unmatched (rows_in new) came c.rule) constraints matched) in
      sym (unmatched_by-same (rows_in new) (rows_in new) constraints (d.stay ++ came) d.now.rows (λ n. Permutes-refl (rows_in new n)) d.after)
      ∙ each-none (λ (c : Constraint). is_unmatched (rows_in new) (d.stay ++ came) c.rule) constraints both

  pub difference-violates_nothing : (reading : CheckReading) → IsGood reading old → ((table : Table) → get new name ≡ Some table → violated_by reading name table ≡ [])
      → AreMatched new name came → MayGo new name gone → violated_in reading new ≡ []
  difference-violates_nothing reading good alone matched free = unviolated-in reading new (λ other table is. by other table is (same_name other name) refl)
    where
      own : violated_at reading new name (Some d.now) ≡ []
      own = both_none (violated_by reading name d.now) (unmatched_by (rows_in new) d.now.constraints d.now.rows) (alone d.now d.there)
          (own_matched d.now.constraints (subst (λ (cs : List Constraint). unmatched_by (rows_in old) cs d.table.rows ≡ []) (sym d.constraints) (good name d.table d.was_there).matched)
          (every-of_all (λ (c : Constraint). may_all_go name (rows_in new name) gone d.now.rows c.rule) d.now.constraints (free name d.now d.there)) (matched d.now d.there))

      by : (other : Name) (table : Table) → get new other ≡ Some table → (b : Bool) → same_name other name ≡ b → violated_at reading new other (Some table) ≡ []
      by other table is true same =
          let named : other ≡ name = (bytes_decides other name).0 same in
          let found : d.now ≡ table = same_some d.now table (sym d.there ∙ ap (get new) (sym named) ∙ is) in
          subst (λ (n : Name). violated_at reading new n (Some table) ≡ []) (sym named) (subst (λ (t : Table). violated_at reading new name (Some t) ≡ []) found own)
      by other table is false same =
          let was : IsGoodIn reading old other table = good other table (sym (d.others other same) ∙ is) in
          both_none (violated_by reading other table) (unmatched_by (rows_in new) table.constraints table.rows) was.alone.unviolated
          (each-none (λ (c : Constraint). is_unmatched (rows_in new) table.rows c.rule) table.constraints
          (all_still table.constraints table.rows (none-each (λ (c : Constraint). is_unmatched (rows_in old) table.rows c.rule) table.constraints was.matched)
          (every-of_all (λ (c : Constraint). may_all_go name (rows_in new name) gone table.rows c.rule) table.constraints (free other table is))))
