-- The bench examples of document 01, on bytes: P1 to P12 as one list of questions with their replies, entries, an interface table, listings, and what these do not show.
use Rattle.std.specs.Prelude.{◌≡◌, List, [], ◌∷◌, ◌++◌, map, ℕ, replicate}
use Rattle.rules.specs.Words.{◌=?◌, pick, All, text}
use Rattle.rules.specs.Answers.{Refusal, answered, refused_with}
use Rattle.rules.specs.ReadQuestion.{read_answer}
use Rattle.rules.specs.PairQuestion.{pair_answer}
use Rattle.rules.specs.FillQuestion.{FillInputs, costs_after, sets_after}
use Rattle.rules.specs.EntryQuestion.{entry_answer}
use Rattle.rules.specs.InterfacesQuestion.{interfaces_after}
use Rattle.rules.specs.PathQuestion.{PathInputs, GoodViews, path_answer, trace_after}
use Rattle.rules.specs.NameQuestions.{name_answer, name_part}
use Rattle.rules.specs.Listing.{cost_and_next, listing}

-- ---- tables

abbrev routers : ℕ → List ℕ
routers n = 0x01 ∷ 0x00 ∷ 0x01 ∷ n ∷ []

abbrev link : ℕ → ℕ → ℕ → List ℕ
link a b weight = 0x04 ∷ 0x00 ∷ 0x04 ∷ a ∷ b ∷ 0x00 ∷ weight ∷ []

abbrev table_end : List ℕ
table_end = 0x7F ∷ 0x00 ∷ 0x00 ∷ []

abbrev pub triangle_old : List ℕ
triangle_old = routers 3 ++ link 0 1 1 ++ link 0 2 5 ++ link 1 2 1 ++ table_end

abbrev pub triangle_new : List ℕ
triangle_new = routers 3 ++ link 0 1 1 ++ link 0 2 5 ++ table_end

abbrev pub ring_old : List ℕ
ring_old =
    routers 7 ++ link 0 1 1 ++ link 0 5 1 ++ link 0 6 10 ++ link 1 4 1 ++ link 2 3 1 ++ link 2 5 1 ++ link 3 4 1 ++ link 3 6 1 ++ table_end

abbrev pub ring_new : List ℕ
ring_new = routers 7 ++ link 0 1 1 ++ link 0 5 1 ++ link 0 6 10 ++ link 1 4 1 ++ link 2 3 1 ++ link 2 5 1 ++ link 3 4 1 ++ table_end

abbrev pub pair_linked : List ℕ
pair_linked = routers 2 ++ link 0 1 1 ++ table_end

abbrev pub pair_apart : List ℕ
pair_apart = routers 2 ++ table_end

abbrev pub square : List ℕ
square = routers 4 ++ link 0 1 1 ++ link 0 2 1 ++ link 1 3 1 ++ link 2 3 1 ++ table_end

-- ---- P1 to P12

pub data Question : Type 0 where
  reads : List ℕ → Question
  follows : PathInputs → Question

-- accepted with N and the number of links; refused with number, table and place; ended with the outcome's code, router, hops, and the bytes of the trace
pub data Reply : Type 0 where
  accepts : ℕ → ℕ → Reply
  refuses : ℕ → ℕ → ℕ → Reply
  ends : ℕ → ℕ → ℕ → List ℕ → Reply

abbrev refused_by : Refusal → Reply
refused_by r = refuses r.number r.table r.place

-- eight bytes of trace are lent
abbrev lent : List ℕ
lent = replicate 8 0xEE

unfoldable pub reply : Question → Reply
reply (reads table) =
    let a = read_answer table in
    pick (a.refusal.number =? 0) (accepts a.values.routers a.values.links) (refused_by a.refusal)
reply (follows q) =
    let a = path_answer q in
    pick (a.refusal.number =? 0) (ends a.values.outcome a.values.router a.values.hops (trace_after q))
    (refused_by a.refusal)

-- from s to d, by these views
abbrev follow : List ℕ → List ℕ → ℕ → ℕ → List ℕ → Question
follow old new s d views = follows (record { old = old; new = new; source = s; destination = d; views = views; trace = lent })

infix 68 ◌gets◌
abbrev ◌gets◌ : Question → Reply → Question × Reply
q gets r = (q, r)

-- the bytes of a view list
abbrev o : ℕ
o = 0

abbrev n : ℕ
n = 1

-- In the order of the document; P11 has any views. 128 delivered, 129 discarded, 130 no route, 132 lost; later bytes of the trace stay.
abbrev pub cases : List ℕ → List (Question × Reply)
cases any =
    -- P1 to P5
    reads [] gets refuses 1 0 0
    ∷ reads (0x01 ∷ 0x00 ∷ 0x01 ∷ 0x01 ∷ 0x7F ∷ 0x00 ∷ 0x00 ∷ []) gets accepts 1 0
    ∷ reads (0x01 ∷ 0x00 ∷ 0x01 ∷ 0x40 ∷ 0x7F ∷ 0x00 ∷ 0x00 ∷ []) gets accepts 64 0
    ∷ reads (0x01 ∷ 0x00 ∷ 0x01 ∷ 0x41 ∷ 0x7F ∷ 0x00 ∷ 0x00 ∷ []) gets refuses 4 0 0
    ∷ reads (0x01 ∷ 0x00 ∷ 0x01 ∷ 0x02 ∷ 0x04 ∷ 0x00 ∷ 0x04 ∷ 0x00 ∷ 0x01 ∷ 0x00 ∷ 0x00 ∷ 0x7F ∷ 0x00 ∷ 0x00 ∷ []) gets refuses 4 0 4
    -- P6 to P8
    ∷ follow triangle_old triangle_new 1 2 (n ∷ o ∷ []) gets ends 129 0 1 (1 ∷ 0 ∷ replicate 6 0xEE)
    ∷ follow triangle_old triangle_new 1 2 (n ∷ n ∷ []) gets ends 128 2 2 (1 ∷ 0 ∷ 2 ∷ replicate 5 0xEE)
    ∷ follow triangle_old triangle_new 0 2 (o ∷ o ∷ []) gets ends 132 1 1 (0 ∷ 1 ∷ replicate 6 0xEE)
    -- P9, P10
    ∷ follow ring_old ring_new 0 6 (o ∷ o ∷ o ∷ n ∷ n ∷ n ∷ []) gets ends 129 3 3 (0 ∷ 1 ∷ 4 ∷ 3 ∷ replicate 4 0xEE)
    ∷ follow ring_old ring_new 3 6 (n ∷ n ∷ n ∷ n ∷ n ∷ n ∷ []) gets ends 128 6 4 (3 ∷ 2 ∷ 5 ∷ 0 ∷ 6 ∷ replicate 3 0xEE)
    -- P11
    ∷ follow triangle_old triangle_new 2 2 any gets ends 128 2 0 (2 ∷ replicate 7 0xEE)
    -- P12
    ∷ follow pair_linked pair_apart 0 1 (n ∷ []) gets ends 130 0 0 (0 ∷ replicate 7 0xEE)
    ∷ []

-- each question gets its reply, whatever views that are not refused P11 has
abbrev pub BenchExamples : Type 0
BenchExamples = (any : List ℕ) → GoodViews 3 any → All (λ c. reply c.0 ≡ c.1) (cases any)

-- ---- an entry whose previous hop is not linked: what comes from router 2 for router 1, router 0 forwards to router 1

abbrev pub EntryExample : Type 0
EntryExample = entry_answer (record { table = routers 3 ++ link 0 1 1 ++ table_end; router = 0; previous = 2; destination = 1 }) ≡ answered 1

-- ---- what no example above shows: what is written where there is no route, three members, a name, and a refusal of the new table

abbrev apart_to_0 : FillInputs
apart_to_0 = record { table = pair_apart; destination = 0; costs = replicate 3 7; sets = replicate 3 7 }

-- one router, called A
abbrev named_table : List ℕ
named_table = routers 1 ++ (0x02 ∷ 0x00 ∷ 0x02 ∷ 0 ∷ 0x41 ∷ []) ++ table_end

pub record OtherExamples : Type 0 where
  pub no_route_costs : costs_after apart_to_0 ≡ 0 ∷ 4294967295 ∷ 7 ∷ []
  pub no_route_sets : sets_after apart_to_0 ≡ 0 ∷ 0 ∷ 7 ∷ []
  pub three_members : cost_and_next 7 0b11100 ≡ text "7 2,3,4"
  pub is_named : name_answer (record { table = named_table; router = 0 }) ≡ answered 1
  pub name_there : name_part (record { table = named_table; router = 0 }) ≡ record { table = 0; place = 8; size = 1 }
  pub new_refused : pair_answer (record { old = pair_apart; new = routers 65 ++ table_end }) ≡ refused_with (record { routers = 0; differ = 0 }) 4 1 0

-- ---- the old triangle's interface table of router 0, in thirteen lent bytes

abbrev pub InterfaceExample : Type 0
InterfaceExample =
    interfaces_after (record { table = triangle_old; router = 0; out = replicate 13 0xEE })
    ≡ 128 ∷ 1 ∷ 1 ∷ 131 ∷ 131 ∷ 131 ∷ 128 ∷ 129 ∷ 129 ∷ 128 ∷ 1 ∷ 1 ∷ 0xEE ∷ []

-- ---- listings: of the square, of two routers without a link, and of a refused table

abbrev pub ListingExamples : Type 0
ListingExamples =
    map listing (square ∷ pair_apart ∷ (routers 65 ++ table_end) ∷ [])
    ≡ (text "router dest cost next\n"
    ++ text "0 1 1 1\n"
    ++ text "0 2 1 2\n"
    ++ text "0 3 2 1,2\n"
    ++ text "1 0 1 0\n"
    ++ text "1 2 2 0,3\n"
    ++ text "1 3 1 3\n"
    ++ text "2 0 1 0\n"
    ++ text "2 1 2 0,3\n"
    ++ text "2 3 1 3\n"
    ++ text "3 0 2 1,2\n"
    ++ text "3 1 1 1\n"
    ++ text "3 2 1 2\n")
    ∷ (text "router dest cost next\n" ++ text "0 1 - -\n" ++ text "1 0 - -\n")
    ∷ text "refused 4 at 0\n"
    ∷ []
