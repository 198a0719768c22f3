-- The sections of a table: names and links, as instances of the section lemma.
-- Assumes nothing.
use mathlib.Core.Path.{◌≡◌, refl, sym, ◌∙◌, ap, subst}
use mathlib.Core.Bool.{true, ◌&&◌}
use mathlib.Core.List.{List, [], ◌∷◌}
use Prim.Native.Nat.{ℕ, suc, ◌+◌, ◌*◌, ◌/◌, ◌%◌, ◌≤◌, ◌<◌}
use native.Mathlib.Omega.{arith}
use lib.Dec.{ltb, leb}
use lib.ListN.{length, drop, length-drop}
use lib.Seq.{drop-cons}
use borrow.Author.Tests.{ltb-true, leb-true, eqb-true, lt-ltb, le-leb}
use Rattle.rules.specs.Words.{every}
use Rattle.rules.specs.Layout.{Name, Link, NameFits, LinkFits, pair_number, Placed, Bytes, tag_name, tag_link}
use Rattle.rules.specs.Table.{byte, name_of, link_of, known_tag, length_allowed, name_byte, name_fits, link_fits, contents_fit, key}
use Rattle.rules.proofs.Basics.{both, All-map, every_true, true_every}
use Rattle.rules.proofs.Records.{record_at, Passes, header, last_byte}
use Rattle.rules.proofs.Sections.{Section, Lawful}

-- ---- names

abbrev pub names : Section Name
names = record {
  tag = tag_name;
  says = λ place c. name_of (record_at place tag_name c);
  contents = λ m. m.router ∷ m.bytes;
  key = λ m. m.router;
  Fits = NameFits;
  Placed = Placed;
  most = 20;
}

-- a byte passes the test of names where it is a plain character
plain_byte : (c : ℕ) → name_byte c ≡ true → (0x21 ≤ c) × (c ≤ 0x7E)
unfolding name_byte
plain_byte c e = let (low, high) = both (leb 0x21 c) (leb c 0x7E) e in (leb-true 0x21 c low, leb-true c 0x7E high)

byte_plain : (c : ℕ) → (0x21 ≤ c) × (c ≤ 0x7E) → name_byte c ≡ true
unfolding name_byte
byte_plain c p = rw (le-leb 0x21 c p.0, le-leb c 0x7E p.1)

-- a name takes 2 to 17 bytes
module _ (n : ℕ) (c : List ℕ) (p : Passes n tag_name c) where
  name_sized : (2 ≤ length c) × (length c ≤ 17)
  unfolding length_allowed
  name_sized = let (some, short) = both (leb 2 (length c)) (leb (length c) 17) p.sized in (leb-true 2 (length c) some, leb-true (length c) 17 short)

  pub name_exact : c ≡ byte c 0 ∷ drop 1 c
  name_exact = drop-cons c 0 0 (omega (arith, name_sized))

pub names_lawful : Lawful names
unfolding known_tag length_allowed contents_fit name_fits key
names_lawful = record {
  is_known = refl;
  in_range = omega arith;
  ordered = refl;
  reads = λ n place c p.
      let (below, plain) = both (ltb (byte c 0) n) (every name_byte (drop 1 c)) p.fits in
      record {
        router_below = ltb-true (byte c 0) n below;
        not_empty = omega (arith, length-drop 1 c, name_sized n c p);
        not_long = omega (arith, length-drop 1 c, name_sized n c p);
        plain = every_true name_byte (λ c. (0x21 ≤ c) × (c ≤ 0x7E)) plain_byte (drop 1 c) plain;
      };
  exact = λ n place c p b. name_exact n c p;
  short = λ n c p. omega (arith, name_sized n c p);
  keyed = λ place c. refl;
  placed_none = λ place. tt;
  placed_on = λ n place c xs p h. (refl, subst (λ on. Placed on xs) (omega (arith, length-drop 1 c, name_sized n c p)) h);
  writes = λ n m f. record {
    sized = rw (le-leb 2 (suc (length m.bytes)) (omega arith), le-leb (suc (length m.bytes)) 17 (omega arith));
    fits =
        rw (
          lt-ltb m.router n f.router_below,
          true_every name_byte (λ c. (0x21 ≤ c) × (c ≤ 0x7E)) byte_plain m.bytes f.plain,
        );
  };
  in_bytes = λ n m few f. (omega arith, All-map (λ c p. omega arith) m.bytes f.plain);
  placed_off = λ place m ms h. (
    λ i. record { router = m.router; place = sym h.0 i; bytes = m.bytes },
    subst (λ on. Placed on ms) (omega arith) h.1,
  );
}

-- ---- links

abbrev pub links : Section Link
links = record {
  tag = tag_link;
  says = λ place c. link_of c;
  contents = λ l. l.a ∷ l.b ∷ l.weight / 256 ∷ l.weight % 256 ∷ [];
  key = pair_number;
  Fits = LinkFits;
  Placed = λ place ls. Unit {0};
  most = 7;
}

-- a link fits where it passes the test, and passes it where it fits
pub fits_link : (n : ℕ) (l : Link) → link_fits n l ≡ true → LinkFits n l
unfolding link_fits
fits_link n l e =
    let (p, light) = both (ltb l.a n && ltb l.b n && ltb l.a l.b && leb 1 l.weight) (leb l.weight 65535) e in
    let (q, some) = both (ltb l.a n && ltb l.b n && ltb l.a l.b) (leb 1 l.weight) p in
    let (r, rise) = both (ltb l.a n && ltb l.b n) (ltb l.a l.b) q in
    record {
      ends_rise = ltb-true l.a l.b rise;
      end_below = ltb-true l.b n (both (ltb l.a n) (ltb l.b n) r).1;
      weight_above_0 = leb-true 1 l.weight some;
      weight_fits = leb-true l.weight 65535 light;
    }

pub link_passes : (n : ℕ) (l : Link) → LinkFits n l → link_fits n l ≡ true
unfolding link_fits
link_passes n l f =
    rw (
      lt-ltb l.a n (omega arith),
      lt-ltb l.b n f.end_below,
      lt-ltb l.a l.b f.ends_rise,
      le-leb 1 l.weight f.weight_above_0,
      le-leb l.weight 65535 f.weight_fits,
    )

-- a link takes 4 bytes
module _ (n : ℕ) (c : List ℕ) (p : Passes n tag_link c) where
  pub link_sized : length c ≡ 4
  unfolding length_allowed
  link_sized = eqb-true (length c) 4 p.sized

  four_bytes : c ≡ byte c 0 ∷ byte c 1 ∷ byte c 2 ∷ byte c 3 ∷ []
  four_bytes = header c (omega (arith, link_sized)) ∙ ap (λ (r : List ℕ). byte c 0 ∷ byte c 1 ∷ byte c 2 ∷ r) (last_byte c 3 link_sized)

-- the two bytes of a weight
weight_bytes : (high low : ℕ) → low < 256 → ((high * 256 + low) / 256 ≡ high) × ((high * 256 + low) % 256 ≡ low)
weight_bytes high low h = omega arith

pub links_lawful : Lawful links
unfolding known_tag length_allowed contents_fit key
links_lawful = record {
  is_known = refl;
  in_range = omega arith;
  ordered = refl;
  reads = λ n place c p. fits_link n (link_of c) p.fits;
  exact = λ n place c p b.
      let d : Bytes (byte c 0 ∷ byte c 1 ∷ byte c 2 ∷ byte c 3 ∷ []) = subst Bytes (four_bytes n c p) b in
      let (high, low) = weight_bytes (byte c 2) (byte c 3) d.1.1.1.0 in
      rw (high, low) (four_bytes n c p);
  short = λ n c p. omega (arith, link_sized n c p);
  keyed = λ place c. refl;
  placed_none = λ place. tt;
  placed_on = λ n place c xs p h. tt;
  writes = λ n l f. record { sized = refl; fits = rw (weight_whole l) (link_passes n l f) };
  in_bytes = λ n l few f. omega arith;
  placed_off = λ place l ls h. (λ i. record { a = l.a; b = l.b; weight = weight_whole l i }, tt);
}
  where
    weight_whole : (l : Link) → l.weight / 256 * 256 + l.weight % 256 ≡ l.weight
    weight_whole l = omega arith
