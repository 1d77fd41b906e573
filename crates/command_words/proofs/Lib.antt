mod TwentyDigits
mod Reading
