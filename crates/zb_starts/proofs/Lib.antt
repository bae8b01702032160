mod ListingLemmas
mod TextLemmas
