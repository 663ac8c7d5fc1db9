-- The rows of a table, four words each from the first row's kind word on, and the rules of one row
-- (document 01, the table of kinds and the paragraph after it; refusals 6, 7 and 8).
use Rattle.std.specs.Prelude.{ℕ, zero, suc, ◌+◌, ◌*◌, Bool, false, cond, not, ◌&&◌, List, get_or, drop, ltb, leb, eqb}
use Rattle.paper.specs.Limits.{most_depth}
use Rattle.entries.specs.Entries.{ascend}
use Rattle.rows.specs.declared.form.Form.{Form}
use Rattle.rows.specs.declared.form.Form.TheVariants as form

-- the words of row i
abbrev pub kind_of : List ℕ → ℕ → ℕ
kind_of rows i = get_or rows (4 * i) 0

abbrev pub arg_of : List ℕ → ℕ → ℕ
arg_of rows i = get_or rows (4 * i + 1) 0

abbrev pub end_of : List ℕ → ℕ → ℕ
end_of rows i = get_or rows (4 * i + 2) 0

abbrev pub from_of : List ℕ → ℕ → ℕ
from_of rows i = get_or rows (4 * i + 3) 0

-- the form of document 001 that a kind word names; the forms themselves stand in src/form.rt
unfoldable pub form_of : ℕ → Form
form_of k =
    cond (eqb k 0) form.False
    (cond (eqb k 1) form.Star
    (cond (eqb k 2) form.Candidate
    (cond (eqb k 3) form.Conjunction
    (cond (eqb k 4) form.Disjunction
    (cond (eqb k 5) form.Exists
    (cond (eqb k 6) form.If form.Unknown))))))

-- stepping by end words from the row `at`, m children meet `stop`: each end rises, and none passes it
unfoldable pub meets : List ℕ → ℕ → ℕ → ℕ → Bool
meets rows stop at zero = eqb at stop
meets rows stop at (suc m) = ltb at stop && (ltb at (end_of rows at) && (leb (end_of rows at) stop && meets rows stop (end_of rows at) m))

-- the reads that a row of a form takes: a star as many as its arg says, any other none
abbrev pub takes : Form → ℕ → ℕ
takes form.False arg = 0
takes form.Star arg = arg
takes form.Candidate arg = 0
takes form.Conjunction arg = 0
takes form.Disjunction arg = 0
takes form.Exists arg = 0
takes form.If arg = 0
takes form.Unknown arg = 0

-- the number of reads that all stars before row i take
unfoldable pub taken_before : List ℕ → ℕ → ℕ
taken_before rows zero = 0
taken_before rows (suc i) = taken_before rows i + takes (form_of (kind_of rows i)) (arg_of rows i)

-- m children, of which the first is a star
abbrev pub guarded : List ℕ → ℕ → ℕ → Bool
guarded rows i m = eqb (kind_of rows (i + 1)) 1 && meets rows (end_of rows i) (i + 1) m

-- The table of kinds: what it asks of row i's arg, its children and, if it is a star, its reads.
-- FALSE: arg 0, no children
unfoldable pub false_rule : List ℕ → ℕ → Bool
false_rule rows i = eqb (arg_of rows i) 0 && eqb (end_of rows i) (i + 1)

-- star: no children, and its next arg reads are there and strictly ascend
unfoldable pub star_rule : List ℕ → List ℕ → ℕ → Bool
star_rule rows reads i = eqb (end_of rows i) (i + 1) && ascend (drop (from_of rows i) reads) (arg_of rows i)

-- candidate: arg is one of #V variables, one star
unfoldable pub candidate_rule : List ℕ → ℕ → ℕ → Bool
candidate_rule rows #V i = ltb (arg_of rows i) #V && guarded rows i 1

-- conjunction or disjunction: arg children, 1 or more
unfoldable pub join_rule : List ℕ → ℕ → Bool
join_rule rows i = ltb 0 (arg_of rows i) && meets rows (end_of rows i) (i + 1) (arg_of rows i)

-- exists, of m = 2 children, or IF, of 3: arg 0, a star first
unfoldable pub bound_rule : List ℕ → ℕ → ℕ → Bool
bound_rule rows i m = eqb (arg_of rows i) 0 && guarded rows i m

abbrev pub keeps_form : List ℕ → List ℕ → ℕ → ℕ → Form → Bool
keeps_form rows reads #V i form.False = false_rule rows i
keeps_form rows reads #V i form.Star = star_rule rows reads i
keeps_form rows reads #V i form.Candidate = candidate_rule rows #V i
keeps_form rows reads #V i form.Conjunction = join_rule rows i
keeps_form rows reads #V i form.Disjunction = join_rule rows i
keeps_form rows reads #V i form.Exists = bound_rule rows i 2
keeps_form rows reads #V i form.If = bound_rule rows i 3
keeps_form rows reads #V i form.Unknown = false

-- of #N rows the end of row 0 is #N, and no other passes it
unfoldable pub ends_within : ℕ → ℕ → ℕ → Bool
ends_within #N i end = cond (eqb i 0) (eqb end #N) (leb end #N)

-- row i keeps its rules, depth apart
unfoldable pub keeps_rules : List ℕ → List ℕ → ℕ → ℕ → ℕ → Bool
keeps_rules rows reads #V #N i =
    ends_within #N i (end_of rows i) && (eqb (from_of rows i) (taken_before rows i) && keeps_form rows reads #V i (form_of (kind_of rows i)))

-- refusal 6: row i breaks its rules
abbrev pub breaks_rules : List ℕ → List ℕ → ℕ → ℕ → ℕ → Bool
breaks_rules rows reads #V #N i = not (keeps_rules rows reads #V #N i)

-- how many of the first k rows have row i in their subtree
unfoldable pub round_of : List ℕ → ℕ → ℕ → ℕ
round_of rows i zero = 0
round_of rows i (suc k) = round_of rows i k + cond (ltb i (end_of rows k)) 1 0

-- the depth of row i: it and the rows around it. Row 0 has depth 1.
abbrev pub depth_of : List ℕ → ℕ → ℕ
depth_of rows i = round_of rows i (suc i)

-- refusal 8: row i is deeper than 64
abbrev pub is_deep : List ℕ → ℕ → Bool
is_deep rows i = ltb most_depth (depth_of rows i)
