-- What the lister is given, and what it leaves in the lent arrays. Which tokens a text has is the recogniser's to say (Listing).
pub mod Listing
