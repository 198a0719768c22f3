-- The path of one packet: how it ended, at which router and after how many hops; the trace is a lent output.
use Rattle.std.specs.Prelude.{◌≡◌, ◌↔◌, Bool, ◌||◌, not, List, [], ◌∷◌, ◌++◌, ℕ, suc, ◌-◌, ◌≤◌, ◌<◌, length, take}
use Rattle.rules.specs.Words.{◌<?◌, ◌≤?◌, Line, ◌when◌, every, All}
use Rattle.rules.specs.Table.{byte, says}
use Rattle.rules.specs.Paths.{Choice, Packet, Path, listed, new_view, old_view, outcome_code, path}
use Rattle.rules.specs.Demand3.{Demand3OfPath, decisions}
use Rattle.rules.specs.Answers.{Answer, Answered, answer, afterwards, on_tables, bad_router, Case, ◌unless◌, Exactly, RefusedBy, Output}
use Rattle.rules.specs.PairQuestion.{pair_refusals, pair_cases, AcceptedTogether}

pub record PathInputs : Type 0 where
  pub old : List ℕ
  pub new : List ℕ
  pub source : ℕ
  pub destination : ℕ
  pub views : List ℕ
  pub trace : List ℕ

-- 128 delivered, 129 discarded, 130 no route, 132 lost; the router where it ended; the hops
pub record Ending : Type 0 where
  pub outcome : ℕ
  pub router : ℕ
  pub hops : ℕ

abbrev pub no_ending : Ending
no_ending = record { outcome = 0; router = 0; hops = 0 }

abbrev pub ending : Path → Ending
ending p = record { outcome = outcome_code p.outcome; router = p.router; hops = p.hops }

-- a view list shorter than N − 1
unfoldable pub few_views : ℕ → List ℕ → Bool
few_views n views = length views <? n - 1

-- 11: a view list shorter than N − 1, or a byte other than 0 and 1 among its first N − 1
unfoldable pub bad_views : ℕ → List ℕ → Bool
bad_views n views = few_views n views || not (every (λ v. v ≤? 1) (take (n - 1) views))

-- 9: a source or a destination not below N
unfoldable pub bad_numbers : ℕ → ℕ → ℕ → Bool
bad_numbers n s d = bad_router n s || bad_router n d

-- 9, 11: of tables of n routers, by whether a number is bad
abbrev pub packet_refusals : ℕ → Bool → List ℕ → List (Line ℕ)
packet_refusals n bad views = 9 when bad ∷ 11 when bad_views n views ∷ []

-- 9, 11, 10: with so many bytes of room for the trace
unfoldable pub path_refusals : ℕ → Bool → List ℕ → ℕ → List (Line ℕ)
path_refusals n bad views room = packet_refusals n bad views ++ (10 when (room <? n) ∷ [])

-- the packet, and the path that the views of the list give
abbrev pub packet_of : PathInputs → Packet
packet_of q = record { old = says q.old; new = says q.new; source = q.source; destination = q.destination }

unfoldable pub path_of : PathInputs → Path
path_of q = path (packet_of q) (listed q.views)

-- behind the tables 8, 9, 11, 10
unfoldable pub path_numbers : PathInputs → List (Line ℕ)
path_numbers q =
    let n = (says q.new).routers in
    pair_refusals (says q.old) (says q.new) ++ path_refusals n (bad_numbers n q.source q.destination) q.views (length q.trace)

unfoldable pub path_answer : PathInputs → Answer Ending
path_answer q = answer (on_tables (q.old ∷ q.new ∷ []) (path_numbers q)) no_ending (ending (path_of q))

unfoldable pub trace_after : PathInputs → List ℕ
trace_after q = afterwards (path_answer q) (path_of q).trace q.trace

-- ---- what is proved (proofs/PathQuestion)

-- what 9 asks for: source and destination are routers
pub record PathNumbers (n : ℕ) (q : PathInputs) : Type 0 where
  pub source_below : q.source < n
  pub destination_below : q.destination < n

-- what 11 asks for: N − 1 views, each 0 or 1
pub record GoodViews (n : ℕ) (views : List ℕ) : Type 0 where
  pub enough : n - 1 ≤ length views
  pub good : All (λ v. v ≤ 1) (take (n - 1) views)

-- old table, new table, 8, 9, 11, 10
abbrev pub path_cases : PathInputs → List Case
path_cases q =
    let n = (says q.new).routers in
    pair_cases (record { old = q.old; new = q.new })
    ++ (9 unless PathNumbers n q ∷ 11 unless GoodViews n q.views ∷ 10 unless (n ≤ length q.trace) ∷ [])

-- the same question with another list of views
abbrev pub with_views : PathInputs → List ℕ → PathInputs
with_views q views = record { old = q.old; new = q.new; source = q.source; destination = q.destination; views = views; trace = q.trace }

-- what the path question asks for
pub record PathAsked (q : PathInputs) : Type 0 where
  pub together : AcceptedTogether q.old q.new
  pub numbers : PathNumbers (says q.new).routers q
  pub views : GoodViews (says q.new).routers q.views
  pub room : (says q.new).routers ≤ length q.trace

pub record PathProved (q : PathInputs) : Type 0 where
  pub exactly : Exactly (path_cases q) (record { outcome = 0; router = 0; hops = 0 })
      (record { outcome = outcome_code (path_of q).outcome; router = (path_of q).router; hops = (path_of q).hops }) (path_answer q)
  pub asked : Answered (path_answer q) ↔ PathAsked q
  pub refusals : RefusedBy 1 (8 ∷ 9 ∷ 11 ∷ 10 ∷ []) (record { outcome = 0; router = 0; hops = 0 }) (path_answer q)
  -- the path is that of this packet, by the views of the list: 0 old, 1 new
  pub followed : path_of q
      ≡ path (record { old = says q.old; new = says q.new; source = q.source; destination = q.destination }) (listed q.views)
  pub views_say : (i n : ℕ)
      → (byte q.views n ≡ 0 → listed q.views i n ≡ old_view) × (byte q.views n ≡ 1 → listed q.views i n ≡ new_view)
  -- one router for each one visited, and nothing after the last
  pub trace_held : Output (path_answer q) (suc (path_of q).hops) (path_of q).trace q.trace (trace_after q)
  -- every router that decides finds its byte in the list
  pub bytes_found : PathAsked q → decisions (path_of q) ≤ length q.views
  -- demand 3, where the router at each hop uses either view, chosen by anyone
  pub demand3 : AcceptedTogether q.old q.new → PathNumbers (says q.new).routers q → (choice : Choice) → Demand3OfPath (packet_of q) choice
  -- whatever the routers choose, the question can be asked with some list of N − 1 bytes, and gives the same path
  pub every_choice : AcceptedTogether q.old q.new → PathNumbers (says q.new).routers q → (says q.new).routers ≤ length q.trace
      → (choice : Choice)
      → (views : List ℕ)
      × (length views ≡ (says q.new).routers - 1)
      × Answered (path_answer (with_views q views))
      × (path_of (with_views q views) ≡ path (packet_of q) choice)
