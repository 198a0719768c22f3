-- Following one packet.
use Rattle.std.specs.Prelude.{Bool, List, [], ◌∷◌, ℕ, zero, suc, ◌-◌}
use Rattle.rules.specs.Words.{◌=?◌, ◌<?◌, pick}
use Rattle.rules.specs.Layout.{Table}
use Rattle.rules.specs.Table.{byte}
use Rattle.rules.specs.Links.{weight}
use Rattle.rules.specs.Entries.{Entry, deliver, discard, no_route, forward, Rules, entry_by, rules_of, starts_here}

-- ---- views

pub data View : Type 0 where
  old_view new_view : View

-- the one of two that a view means
abbrev pub by : {A : Type 0} → View → A → A → A
by old_view a b = a
by new_view a b = b

-- which view router i uses if it is the n-th that decides, counted from 0: chosen by anyone
abbrev pub Choice : Type 0
Choice = ℕ → ℕ → View

-- byte n of a view list: 0 old, 1 new
unfoldable pub listed : List ℕ → Choice
listed views i n = pick (byte views n =? 1) new_view old_view

-- ---- the answer

-- delivered, discarded, no route, or lost
pub data Outcome : Type 0 where
  delivered discarded unrouted lost : Outcome

-- the code of the entry that ended the packet; lost is 132, since 131 marks the router's own row in an interface table
abbrev pub outcome_code : Outcome → ℕ
outcome_code delivered = 128
outcome_code discarded = 129
outcome_code unrouted = 130
outcome_code lost = 132

-- how and at which router the packet ended, the links really crossed, and the visited routers in order
pub record Path : Type 0 where
  pub outcome : Outcome
  pub router : ℕ
  pub hops : ℕ
  pub trace : List ℕ

-- the packet ends at router i
abbrev pub ended : Outcome → ℕ → Path
ended o i = record { outcome = o; router = i; hops = 0; trace = i ∷ [] }

-- the packet crosses a link from router i; `onward` is what happens then
abbrev pub crossed : ℕ → Path → Path
crossed i onward = record { outcome = onward.outcome; router = onward.router; hops = suc onward.hops; trace = i ∷ onward.trace }

-- ---- arriving and leaving

-- What a packet for d meets: the rules of the two views, and the links that carry packets. They are parameters because demand 3 is proved for any
-- that are permitted; document 01's follow below.
pub record Site : Type 0 where
  pub destination : ℕ
  pub rules : View → Rules
  pub carries : ℕ → ℕ → Bool

-- leaving router i over its link to k: a link that does not carry loses the packet; `onward` is what happens from k on
abbrev pub leave : Site → ℕ → ℕ → Path → Path
leave site i k onward = pick (site.carries i k) (crossed i onward) (ended lost i)

-- arriving at router i: its entry is applied; `out` is leaving for a hop
abbrev pub arrive : ℕ → (ℕ → Path) → Entry → Path
arrive i out deliver = ended delivered i
arrive i out discard = ended discarded i
arrive i out no_route = ended unrouted i
arrive i out (forward k) = out k

-- The packet stands at router i, came from j, and n routers have decided: the one view that is chosen here serves for the whole entry.
abbrev pub entry_at : Site → Choice → ℕ → ℕ → ℕ → Entry
entry_at site choice n i j = entry_by (site.rules (choice i n)) i j site.destination

-- Arriving and leaving take turns until the packet ends. `left` bounds the hops: with none left a packet that is forwarded counts as lost, and for
-- two tables that go together demand 3 shows that this never happens.
unfoldable pub follow : Site → Choice → ℕ → ℕ → ℕ → ℕ → Path
follow site choice zero n i j = arrive i (λ k. ended lost i) (entry_at site choice n i j)
follow site choice (suc left) n i j =
    arrive i (λ k. leave site i k (follow site choice left (suc n) k i)) (entry_at site choice n i j)

-- the path of a packet that starts at s, in a site of N routers: N − 1 hops are enough
unfoldable pub path_in : ℕ → Site → Choice → ℕ → Path
path_in routers site choice s = follow site choice (routers - 1) 0 s starts_here

-- ---- the path of document 01

-- what is followed: a packet, in a site of two views
pub record Packet : Type 0 where
  pub old : Table
  pub new : Table
  pub source : ℕ
  pub destination : ℕ

-- each view is a table, and the real links are those of the new table
unfoldable pub site_of : Packet → Site
site_of packet = record {
  destination = packet.destination;
  rules = λ v. rules_of (by v packet.old packet.new) packet.destination;
  carries = λ i k. 0 <? weight packet.new i k;
}

abbrev pub path : Packet → Choice → Path
path packet choice = path_in packet.new.routers (site_of packet) choice packet.source
