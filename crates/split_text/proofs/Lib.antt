mod Printing
mod ReadingBack
