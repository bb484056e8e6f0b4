-- The tables pass each test.
use Rattle.std.proofs.Common.{◌≡◌, refl, true}
use Rattle.wgsl_grammar_tables.specs.Tests.{test_rules_of, test_nonempty, test_steps, test_came, test_some_item, test_known, test_reduces, test_itself, test_deeper, test_reaches, test_order, test_inhabited, test_first}
use Rattle.wgsl_grammar_tables.specs.Decoded.{listed}

pub rules_of : test_rules_of listed ≡ true
unfolding listed
rules_of = refl

pub nonempty : test_nonempty listed ≡ true
unfolding listed
nonempty = refl

pub steps : test_steps listed ≡ true
unfolding listed
steps = refl

pub came : test_came listed ≡ true
unfolding listed
came = refl

pub some_item : test_some_item listed ≡ true
unfolding listed
some_item = refl

pub known : test_known listed ≡ true
unfolding listed
known = refl

pub reduces : test_reduces listed ≡ true
unfolding listed
reduces = refl

pub itself : test_itself listed ≡ true
unfolding listed
itself = refl

pub deeper : test_deeper listed ≡ true
unfolding listed
deeper = refl

pub reaches : test_reaches listed ≡ true
unfolding listed
reaches = refl

pub order : test_order listed ≡ true
unfolding listed
order = refl

pub inhabited : test_inhabited listed ≡ true
unfolding listed
inhabited = refl

pub first : test_first listed ≡ true
unfolding listed
first = refl
