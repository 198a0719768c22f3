-- The bench examples, by computing.
-- Assumes nothing.
use mathlib.Core.Path.{◌≡◌, refl}
use mathlib.Core.List.{List, ◌∷◌, ◌++◌, flatten}
use Prim.Native.Nat.{ℕ}
use native.Mathlib.Omega.{arith}
use lib.ListN.{length, drop, replicate}
use borrow.Author.Tests.{eq-eqb}
use Rattle.rules.specs.Words.{every, those, tally, below, text_from}
use Rattle.rules.specs.Table.{known_tag, length_allowed, routers_fit, name_byte, name_fits, link_fits, contents_fit, key, keep, bad_tag, not_above, too_many, step, judge_from, judge, read, routers_of, table_of, says}
use Rattle.rules.specs.Links.{weight_in}
use Rattle.rules.specs.Pairs.{differing, too_different}
use Rattle.rules.specs.Costs.{direct, best, cost}
use Rattle.rules.specs.NextHops.{has, members, set_of, chosen, leads, next_hops}
use Rattle.rules.specs.Entries.{entry_by, rules_of, entry, cell, row, interfaces}
use Rattle.rules.specs.Paths.{outcome_code, listed, follow, path_in, site_of}
use Rattle.rules.specs.Answers.{Answered, table_refusal, answer, afterwards}
use Rattle.rules.specs.ReadQuestion.{read_answer}
use Rattle.rules.specs.Names.{name_in}
use Rattle.rules.specs.PairQuestion.{pair_answer}
use Rattle.rules.specs.FillQuestion.{fill_refusals, fill_answer, costs_after, sets_after}
use Rattle.rules.specs.NameQuestions.{name_answer, name_part}
use Rattle.rules.specs.EntryQuestion.{entry_refusals, entry_asked, entry_answer}
use Rattle.rules.specs.InterfacesQuestion.{interfaces_refusals, interfaces_answer, interfaces_after}
use Rattle.rules.specs.PathQuestion.{PathInputs, GoodViews, few_views, bad_views, bad_numbers, path_refusals, path_of, path_numbers, path_answer, trace_after}
use Rattle.rules.specs.Listing.{digits, joined_by_commas, cost_and_next, line_of, line, lines_from, lines, header, refusal_line, listing_lines, listing}
use Rattle.rules.specs.Examples.{OtherExamples, triangle_old, triangle_new, follows, ends, reply, BenchExamples, EntryExample, InterfaceExample, ListingExamples}
use Rattle.rules.proofs.PathQuestion.{path_proved}

-- ---- P1 to P12

-- what is answered replies with the path's ending and what the trace holds
answered_reply : (q : PathInputs) → Answered (path_answer q)
    → reply (follows q) ≡ ends (outcome_code (path_of q).outcome) (path_of q).router (path_of q).hops ((path_of q).trace ++ drop (length (path_of q).trace) q.trace)
unfolding reply trace_after afterwards
answered_reply q h = rw (eq-eqb _ 0 h, (path_proved q).exactly.given h)

-- P11, by whatever views
abbrev from_2_to_2 : List ℕ → PathInputs
from_2_to_2 any = record { old = triangle_old; new = triangle_new; source = 2; destination = 2; views = any; trace = replicate 8 0xEE }

any_views : (any : List ℕ) → GoodViews 3 any → reply (follows (from_2_to_2 any)) ≡ ends 128 2 0 (2 ∷ replicate 7 0xEE)
unfolding path_of read judge judge_from step bad_tag known_tag length_allowed contents_fit routers_fit name_fits name_byte link_fits key keep not_above too_many says table_of routers_of those every weight_in tally differing too_different direct best cost has members below set_of chosen leads next_hops entry_by rules_of listed follow path_in site_of
any_views any g =
    answered_reply (from_2_to_2 any) ((path_proved (from_2_to_2 any)).asked.1 (record {
      together = record { old_accepted = refl; new_accepted = refl; same_routers = refl; one_link = omega arith };
      numbers = record { source_below = omega arith; destination_below = omega arith };
      views = g;
      room = omega arith;
    }))

pub bench_examples : BenchExamples
unfolding reply read_answer path_answer path_numbers bad_numbers path_refusals trace_after few_views bad_views path_of table_refusal answer afterwards read judge judge_from step bad_tag known_tag length_allowed contents_fit routers_fit name_fits name_byte link_fits key keep not_above too_many says table_of routers_of those every weight_in tally differing too_different direct best cost has members below set_of chosen leads next_hops entry_by rules_of listed follow path_in site_of
bench_examples any g =
    (refl, (refl, (refl, (refl, (refl, (refl, (refl, (refl, (refl, (refl, (any_views any g, (refl, tt))))))))))))

-- ---- one entry, one interface table, listings

pub entry_example : EntryExample
unfolding entry_answer entry_refusals entry_asked entry table_refusal answer read judge judge_from step bad_tag known_tag length_allowed contents_fit routers_fit name_fits name_byte link_fits key keep not_above too_many says table_of routers_of those every below weight_in direct best cost has members set_of chosen leads next_hops entry_by rules_of
entry_example = refl

pub other_examples : OtherExamples
unfolding cost_and_next joined_by_commas digits text_from has members fill_answer fill_refusals costs_after sets_after pair_answer name_answer name_part name_in table_refusal answer afterwards read judge judge_from step bad_tag known_tag length_allowed contents_fit routers_fit name_fits name_byte link_fits key keep not_above too_many says table_of routers_of those every below weight_in tally differing too_different direct best cost set_of leads next_hops
other_examples = record { no_route_costs = refl; no_route_sets = refl; three_members = refl; is_named = refl; name_there = refl; new_refused = refl }

pub interface_example : InterfaceExample
unfolding interfaces_after interfaces_answer interfaces_refusals interfaces row cell entry table_refusal answer afterwards read judge judge_from step bad_tag known_tag length_allowed contents_fit routers_fit name_fits name_byte link_fits key keep not_above too_many says table_of routers_of those every below weight_in direct best cost has members set_of chosen leads next_hops entry_by rules_of flatten
interface_example = refl

pub listing_examples : ListingExamples
unfolding listing listing_lines lines lines_from line line_of header refusal_line cost_and_next joined_by_commas digits read judge judge_from step bad_tag known_tag length_allowed contents_fit routers_fit name_fits name_byte link_fits key keep not_above too_many table_of routers_of those every below weight_in direct best cost has set_of leads next_hops flatten text_from members
listing_examples = refl
